-- The networks of overlap and expectation.
use Rattle.std.proofs.Common.{◌≡◌, ℕ, ℤ, Bool, false, List, [], ◌∷◌, ◌++◌, ◌&&◌, refl, sym, ◌∙◌, ap, ap₂, subst, append_assoc, append-nil}
use Rattle.qn_sign.specs.Sign.{xor, IsDistinct, Perm}
use Rattle.qn_sign.specs.Sign.Perm.{none, keep, then_by}
use Rattle.qn_gauss.specs.Gaussian.{conj_g, mul_g, signed}
use Rattle.qn_value.specs.Networks.{End, Node, Bond, Assignment, in_end, out_end, sums, same_end, pairs_of, odd_end, twist_sign, sign, values, product, flat, contract, IsNetwork}
use Rattle.qn_sign.proofs.Parity.{pairs, perm_blocks, perm-refl}
use Rattle.qn_sign.proofs.SignLaws.{turned}
use Rattle.qn_sign.proofs.Order.{distinct-perm, distinct_first, distinct_second}
use Rattle.qn_gauss.proofs.Ring.{mul_one}
use Rattle.qn_value.proofs.Sums.{Meets, sums-meet}
use Rattle.qn_value.proofs.Steps.{order_law, order_network}
use Rattle.qn_value.proofs.NetLaws.{end_test, sign-pairs, bonds_even}
use Rattle.qn_braket.specs.Conjugates.{across, conj_nodes}
use Rattle.qn_braket.specs.Brakets.{outs, ins_back, AreUntwisted}
use Rattle.qn_sign.proofs.OrderSigns.{sign_itself, sign_taken}
use Rattle.qn_braket.proofs.Part.{part_value, part_network, contract_entry, flat-agree}
use Rattle.qn_braket.proofs.Conjugate.{conj_ends_cons, conj_network, conj_value, meets_across}

pub untwisted : (par : ℤ → ℕ → Bool) (bs : List Bond) (c : Assignment) → AreUntwisted bs → twist_sign par bs c ≡ false
untwisted par [] c u = refl
untwisted par (b ∷ bs) c u = ap₂ (λ p q. xor (p && par b.label (c (in_end b))) q) u.0 (untwisted par bs c u.1)

-- nested pairs: in_n .. in_1 out_1 .. out_n

abbrev pub nested : List Bond → List End → List End
nested bs post = ins_back bs ++ (outs bs ++ post)

nested_cons : (b : Bond) (bs : List Bond) (post : List End) →
    nested (b ∷ bs) post ≡ ins_back bs ++ ((in_end b ∷ out_end b ∷ []) ++ (outs bs ++ post))
nested_cons b bs post =
    ap (λ es. es ++ (out_end b ∷ (outs bs ++ post))) (conj_ends_cons (out_end b) (outs bs)) ∙ append_assoc (ins_back bs) (in_end b ∷ []) (out_end b ∷ (outs bs ++ post))

pub nested_perm : (bs : List Bond) (post rest : List End) → Perm post rest → Perm (nested bs post) (pairs_of bs ++ rest)
nested_perm [] post rest m = m
nested_perm (b ∷ bs) post rest m =
    subst (λ w. Perm w (in_end b ∷ out_end b ∷ (pairs_of bs ++ rest))) (sym (nested_cons b bs post))
    (then_by (perm_blocks (ins_back bs) (in_end b ∷ out_end b ∷ []) (outs bs ++ post)) (keep (keep (nested_perm bs post rest m))))

-- they drop out, the innermost first
pub nested_sign : (par : ℤ → ℕ → Bool) (a : Assignment) (bs : List Bond) (post rest : List End) → Meets bs a → IsDistinct same_end (nested bs post) → Perm post rest →
    pairs (turned same_end (odd_end par a) (nested bs post)) (pairs_of bs ++ rest) ≡ pairs (turned same_end (odd_end par a) post) rest
nested_sign par a [] post rest e d m = refl
nested_sign par a (b ∷ bs) post rest e d m =
    let couple : List End = in_end b ∷ out_end b ∷ [] in
    let d' : IsDistinct same_end (ins_back bs ++ (couple ++ (outs bs ++ post))) = subst (IsDistinct same_end) (nested_cons b bs post) d in
    ap (λ w. pairs (turned same_end (odd_end par a) w) (pairs_of (b ∷ bs) ++ rest)) (nested_cons b bs post)
    ∙ sign_taken same_end end_test (odd_end par a) (ins_back bs) couple (outs bs ++ post) couple [] (pairs_of bs ++ rest)
    (bonds_even par a (b ∷ []) (e.0, tt)) d' (perm-refl couple) (nested_perm bs post rest m)
    ∙ ap₂ xor
    (sign_itself same_end end_test (odd_end par a) couple (couple_distinct couple (ins_back bs) (outs bs ++ post) d'))
    (nested_sign par a bs post rest e.1 (without (ins_back bs) couple (outs bs ++ post) d') m)
  where
    couple_distinct : (c p q : List End) → IsDistinct same_end (p ++ (c ++ q)) → IsDistinct same_end c
    couple_distinct c p q d = distinct_first same_end c q (distinct_second same_end p (c ++ q) d)

    without : (p c q : List End) → IsDistinct same_end (p ++ (c ++ q)) → IsDistinct same_end (p ++ q)
    without p c q d = distinct_second same_end c (p ++ q) (distinct-perm same_end end_test (perm_blocks p c q) d)

module _ (par : ℤ → ℕ → Bool) (bra ket : List Node) (bra_bonds ket_bonds sites bonds : List Bond)
    (bra_net : IsNetwork bra bra_bonds (outs sites)) (ket_net : IsNetwork ket ket_bonds (outs sites))
    (net : IsNetwork (conj_nodes bra ++ ket) bonds []) (split : Perm bonds (bra_bonds ++ (ket_bonds ++ sites)))
    (plain : AreUntwisted sites) where
  abbrev left : Node
  left = contract par (conj_nodes bra) bra_bonds (ins_back sites)

  abbrev right : Node
  right = contract par ket ket_bonds (outs sites)

  bra_conj : IsNetwork (conj_nodes bra) bra_bonds (ins_back sites)
  bra_conj = conj_network bra bra_bonds (outs sites) bra_net

  net_1 : IsNetwork (conj_nodes bra ++ ket) (bra_bonds ++ (ket_bonds ++ sites)) []
  net_1 = order_network (conj_nodes bra ++ ket) bonds (bra_bonds ++ (ket_bonds ++ sites)) [] net split

  net_2 : IsNetwork (left ∷ (ket ++ [])) (ket_bonds ++ sites) []
  net_2 = subst (λ ns. IsNetwork (left ∷ ns) (ket_bonds ++ sites) []) (sym (append-nil ket))
      (part_network par [] (conj_nodes bra) ket bra_bonds (ket_bonds ++ sites) (ins_back sites) [] net_1 bra_conj)

  net_3 : IsNetwork (left ∷ right ∷ []) sites []
  net_3 = part_network par (left ∷ []) ket [] ket_bonds sites (outs sites) [] net_2 ket_net

  term : (c : Assignment) → Meets sites c → signed (sign par (left ∷ right ∷ []) sites [] c) (product (left ∷ right ∷ []) c) ≡
      mul_g (conj_g (flat par bra bra_bonds (outs sites) c)) (flat par ket ket_bonds (outs sites) c)
  term c m =
      ap₂ signed
      (ap₂ xor (untwisted par sites c plain) (sign-pairs par (left ∷ right ∷ []) sites [] c ∙ nested_sign par c sites [] [] m net_3.distinct none))
      (ap₂ mul_g
      (contract_entry par (conj_nodes bra) bra_bonds (ins_back sites) bra_conj c ∙ conj_value bra bra_bonds (outs sites) bra_net par c
      ∙ ap conj_g (flat-agree par bra bra_bonds (outs sites) bra_net (across c) c (meets_across sites c m)))
      (mul_one (right.entry (values (outs sites) c)) ∙ contract_entry par ket ket_bonds (outs sites) ket_net c))

  pub overlap_law : (a : Assignment) → flat par (conj_nodes bra ++ ket) bonds [] a ≡
      sums sites (λ s. mul_g (conj_g (flat par bra bra_bonds (outs sites) s)) (flat par ket ket_bonds (outs sites) s)) a
  overlap_law a =
      order_law par (conj_nodes bra ++ ket) bonds (bra_bonds ++ (ket_bonds ++ sites)) [] net split a
      ∙ part_value par [] (conj_nodes bra) ket bra_bonds (ket_bonds ++ sites) (ins_back sites) [] net_1 bra_conj a
      ∙ ap (λ ns. flat par (left ∷ ns) (ket_bonds ++ sites) [] a) (sym (append-nil ket))
      ∙ part_value par (left ∷ []) ket [] ket_bonds sites (outs sites) [] net_2 ket_net a
      ∙ sums-meet sites (λ c. signed (sign par (left ∷ right ∷ []) sites [] c) (product (left ∷ right ∷ []) c))
      (λ s. mul_g (conj_g (flat par bra bra_bonds (outs sites) s)) (flat par ket ket_bonds (outs sites) s)) term a
