-- The network of an expectation.
use Rattle.std.proofs.Common.{◌≡◌, ℕ, ℤ, Bool, false, List, [], ◌∷◌, ◌++◌, sym, ◌∙◌, ap, ap₂, subst, append_assoc, append-nil}
use Rattle.qn_sign.specs.Sign.{xor, IsDistinct, Perm}
use Rattle.qn_sign.specs.Sign.Perm.{none}
use Rattle.qn_gauss.specs.Gaussian.{Gaussian, conj_g, mul_g, signed}
use Rattle.qn_value.specs.Networks.{Node, Bond, Assignment, sums, same_end, word, pairs_of, odd_end, sign, values, product, flat, contract, IsNetwork}
use Rattle.qn_sign.proofs.Parity.{pairs}
use Rattle.qn_sign.proofs.SignLaws.{turned}
use Rattle.qn_sign.proofs.Order.{distinct_second}
use Rattle.qn_gauss.proofs.Ring.{mul_one}
use Rattle.qn_value.proofs.Sums.{Meets, sums-meet, sums-append}
use Rattle.qn_value.proofs.Steps.{order_law, order_network}
use Rattle.qn_value.proofs.NetLaws.{sign-pairs, twist-append, pairs_of-append}
use Rattle.qn_braket.specs.Conjugates.{across, conj_nodes}
use Rattle.qn_braket.specs.Brakets.{outs, ins_back, AreUntwisted}
use Rattle.qn_braket.proofs.Part.{part_value, part_network, contract_entry, flat-agree}
use Rattle.qn_braket.proofs.Conjugate.{conj_network, conj_value, meets_across}
use Rattle.qn_braket.proofs.Overlap.{untwisted, nested, nested_sign, nested_perm}

module _ (par : ℤ → ℕ → Bool) (bra op ket : List Node) (bra_bonds op_bonds ket_bonds primed sites bonds : List Bond)
    (bra_net : IsNetwork bra bra_bonds (outs primed)) (op_net : IsNetwork op op_bonds (outs primed ++ ins_back sites)) (ket_net : IsNetwork ket ket_bonds (outs sites))
    (net : IsNetwork (conj_nodes bra ++ (op ++ ket)) bonds []) (split : Perm bonds (bra_bonds ++ (op_bonds ++ (ket_bonds ++ (primed ++ sites)))))
    (plain_primed : AreUntwisted primed) (plain_sites : AreUntwisted sites) where
  abbrev left : Node
  left = contract par (conj_nodes bra) bra_bonds (ins_back primed)

  abbrev middle : Node
  middle = contract par op op_bonds (outs primed ++ ins_back sites)

  abbrev right : Node
  right = contract par ket ket_bonds (outs sites)

  abbrev three : List Node
  three = left ∷ middle ∷ right ∷ []

  bra_conj : IsNetwork (conj_nodes bra) bra_bonds (ins_back primed)
  bra_conj = conj_network bra bra_bonds (outs primed) bra_net

  net_1 : IsNetwork (conj_nodes bra ++ (op ++ ket)) (bra_bonds ++ (op_bonds ++ (ket_bonds ++ (primed ++ sites)))) []
  net_1 = order_network (conj_nodes bra ++ (op ++ ket)) bonds (bra_bonds ++ (op_bonds ++ (ket_bonds ++ (primed ++ sites)))) [] net split

  net_2 : IsNetwork (left ∷ (op ++ ket)) (op_bonds ++ (ket_bonds ++ (primed ++ sites))) []
  net_2 = part_network par [] (conj_nodes bra) (op ++ ket) bra_bonds (op_bonds ++ (ket_bonds ++ (primed ++ sites))) (ins_back primed) [] net_1 bra_conj

  net_3 : IsNetwork (left ∷ middle ∷ (ket ++ [])) (ket_bonds ++ (primed ++ sites)) []
  net_3 = subst (λ ns. IsNetwork (left ∷ middle ∷ ns) (ket_bonds ++ (primed ++ sites)) []) (sym (append-nil ket))
      (part_network par (left ∷ []) op ket op_bonds (ket_bonds ++ (primed ++ sites)) (outs primed ++ ins_back sites) [] net_2 op_net)

  net_4 : IsNetwork three (primed ++ sites) []
  net_4 = part_network par (left ∷ middle ∷ []) ket [] ket_bonds (primed ++ sites) (outs sites) [] net_3 ket_net

  word_is : word three ≡ nested primed (nested sites [])
  word_is = ap (λ es. ins_back primed ++ es) (append_assoc (outs primed) (ins_back sites) (outs sites ++ []))

  goal_is : pairs_of (primed ++ sites) ++ [] ≡ pairs_of primed ++ (pairs_of sites ++ [])
  goal_is = ap (λ es. es ++ []) (pairs_of-append primed sites) ∙ append_assoc (pairs_of primed) (pairs_of sites) []

  parts_meet : (bs : List Bond) (c : Assignment) → Meets (bs ++ sites) c → Meets bs c × Meets sites c
  parts_meet [] c m = (tt, m)
  parts_meet (b ∷ bs) c m = ((m.0, (parts_meet bs c m.1).0), (parts_meet bs c m.1).1)

  no_sign : (c : Assignment) → Meets (primed ++ sites) c → sign par three (primed ++ sites) [] c ≡ false
  no_sign c m =
      let d : IsDistinct same_end (nested primed (nested sites [])) = subst (IsDistinct same_end) word_is net_4.distinct in
      ap₂ xor
      (twist-append par primed sites c ∙ ap₂ xor (untwisted par primed c plain_primed) (untwisted par sites c plain_sites))
      (sign-pairs par three (primed ++ sites) [] c
      ∙ ap₂ (λ w g. pairs (turned same_end (odd_end par c) w) g) word_is goal_is
      ∙ nested_sign par c primed (nested sites []) (pairs_of sites ++ []) (parts_meet primed c m).0 d (nested_perm sites [] [] none)
      ∙ nested_sign par c sites [] [] (parts_meet primed c m).1
      (distinct_second same_end (outs primed) (nested sites []) (distinct_second same_end (ins_back primed) (outs primed ++ nested sites []) d)) none)

  term : (c : Assignment) → Meets (primed ++ sites) c → signed (sign par three (primed ++ sites) [] c) (product three c) ≡
      mul_g (conj_g (flat par bra bra_bonds (outs primed) c)) (mul_g (flat par op op_bonds (outs primed ++ ins_back sites) c) (flat par ket ket_bonds (outs sites) c))
  term c m =
      ap₂ signed (no_sign c m)
      (ap₂ mul_g
      (contract_entry par (conj_nodes bra) bra_bonds (ins_back primed) bra_conj c ∙ conj_value bra bra_bonds (outs primed) bra_net par c
      ∙ ap conj_g (flat-agree par bra bra_bonds (outs primed) bra_net (across c) c (meets_across primed c (parts_meet primed c m).0)))
      (ap₂ mul_g
      (contract_entry par op op_bonds (outs primed ++ ins_back sites) op_net c)
      (mul_one (right.entry (values (outs sites) c)) ∙ contract_entry par ket ket_bonds (outs sites) ket_net c)))

  pub expect_law : (a : Assignment) → flat par (conj_nodes bra ++ (op ++ ket)) bonds [] a ≡
      sums primed (λ s'. sums sites (λ s.
      mul_g (conj_g (flat par bra bra_bonds (outs primed) s)) (mul_g (flat par op op_bonds (outs primed ++ ins_back sites) s) (flat par ket ket_bonds (outs sites) s))) s') a
  expect_law a =
      order_law par (conj_nodes bra ++ (op ++ ket)) bonds (bra_bonds ++ (op_bonds ++ (ket_bonds ++ (primed ++ sites)))) [] net split a
      ∙ part_value par [] (conj_nodes bra) (op ++ ket) bra_bonds (op_bonds ++ (ket_bonds ++ (primed ++ sites))) (ins_back primed) [] net_1 bra_conj a
      ∙ part_value par (left ∷ []) op ket op_bonds (ket_bonds ++ (primed ++ sites)) (outs primed ++ ins_back sites) [] net_2 op_net a
      ∙ ap (λ ns. flat par (left ∷ middle ∷ ns) (ket_bonds ++ (primed ++ sites)) [] a) (sym (append-nil ket))
      ∙ part_value par (left ∷ middle ∷ []) ket [] ket_bonds (primed ++ sites) (outs sites) [] net_3 ket_net a
      ∙ sums-meet (primed ++ sites) (λ c. signed (sign par three (primed ++ sites) [] c) (product three c)) summand term a
      ∙ sums-append primed sites summand a
    where
      summand : Assignment → Gaussian
      summand s = mul_g (conj_g (flat par bra bra_bonds (outs primed) s)) (mul_g (flat par op op_bonds (outs primed ++ ins_back sites) s) (flat par ket ket_bonds (outs sites) s))
