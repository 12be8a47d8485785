-- The value of the network of an expectation of placed tensors.
use Rattle.std.proofs.Common.{◌≡◌, ℕ, zero, suc, ◌+◌, ◌-◌, ◌*◌, ◌/◌, ◌%◌, ◌==◌, ℤ, pos, negsuc, Bool, true, false, cond, List, [], ◌++◌, map, reverse, refl, sym, ◌∙◌, ap, ap₂, subst, append_assoc, arith}
use mathlib.Core.Path.{fun_ext}
use Rattle.std.proofs.lemmas.Bool.Decides.{nat_tests}
use Rattle.std.proofs.lemmas.List.{map-append}
use Rattle.qn_sign.specs.Sign.{Perm}
use Rattle.qn_sign.specs.Sign.Perm.{then_by}
use Rattle.qn_gauss.specs.Gaussian.{conj_g, mul_g}
use Rattle.qn_charge.specs.declared.factor.Factor.{Factor}
use Rattle.qn_index.specs.Legs.{SectorValue, LegValue, total, parity_at}
use Rattle.qn_value.specs.Tensors.{TensorValue}
use Rattle.qn_value.specs.Networks.{Bond, labels, at_values, IsNetwork}
use Rattle.qn_value.specs.Labels.{Placed, slots, node_of, is_positive, bonds_from, value_of}
use Rattle.qn_sign.proofs.Parity.{perm-sym, perm_under, perm_blocks}
use Rattle.qn_value.proofs.NetLaws.{perm_turn}
use Rattle.qn_value.proofs.PlacedLemmas.{HaveSectorsOn}
use Rattle.qn_braket.specs.Conjugates.{conj_nodes}
use Rattle.qn_braket.specs.ChainLabels.{expect_upper, expect_lower, expect_bra, expect_op, expect_ket}
use Rattle.qn_braket.specs.Pieces.{Piece, chain_links, site_lines, state_chain, operator_chain, sum_states, expect_nodes, expect_lines}
use Rattle.qn_braket.proofs.Chained.{perm_both}
use Rattle.qn_braket.proofs.ExpectNet.{expect_net_value, expect_net_network, split_lines}
use Rattle.qn_braket.proofs.SlotLaws.{on_both, bonds-append, ArePositive, plain_value}
use Rattle.qn_braket.proofs.PlacedChains.{AllSame, same_all, same-both, same_flat, same_network, IsState, IsOperator, state_placed, operator_placed, amplitude_of, element_of, AllConjugate, slots-both, piece_of}
use Rattle.qn_braket.proofs.StateValues.{state_nodes, state_bonds, state_lines, amplitude_is}
use Rattle.qn_braket.proofs.OperatorValues.{operator_nodes, operator_bonds, site_bonds, operator_lines, element_is}
use Rattle.qn_braket.proofs.OverlapValues.{conj_nodes_are, conj_bonds, conj_lines, no_opens}

-- the sectors of the lines of the expectation
abbrev pub expect_line : (ℕ → List SectorValue) → (ℕ → LegValue) → (ℕ → LegValue) → (ℕ → LegValue) → ℤ → List SectorValue
expect_line sites bra op ket (pos x) =
    cond (x % 5 == 0) (ket (x / 5 - 1)).sectors (cond (x % 5 == 3) (bra (x / 5)).sectors (cond (x % 5 == 4) (op (x / 5)).sectors (sites (x / 5))))
expect_line sites bra op ket (negsuc x) = []

module _ (sites : ℕ → List SectorValue) (bra_right op_right ket_right : ℕ → LegValue) where
  abbrev line : ℤ → List SectorValue
  line = expect_line sites bra_right op_right ket_right

  -- a number of the form 5 k + r
  at_number : (x k : ℕ) (a b c : Bool) → (x % 5 == 0) ≡ a → (x % 5 == 3) ≡ b → (x % 5 == 4) ≡ c → x / 5 ≡ k →
      line (pos x) ≡ cond a (ket_right (k - 1)).sectors (cond b (bra_right k).sectors (cond c (op_right k).sectors (sites k)))
  at_number x k a b c e f g h = λ i. cond (e i) (ket_right (h i - 1)).sectors (cond (f i) (bra_right (h i)).sectors (cond (g i) (op_right (h i)).sectors (sites (h i))))

  pub upper_line : (k : ℕ) → line (expect_upper k) ≡ sites k
  upper_line k = at_number (5 * k + 1) k false false false (t0 k) (t3 k) (t4 k) (place k)
    where
      t0 : (k : ℕ) → ((5 * k + 1) % 5 == 0) ≡ false
      t0 k = grind (arith, nat_tests)

      t3 : (k : ℕ) → ((5 * k + 1) % 5 == 3) ≡ false
      t3 k = grind (arith, nat_tests)

      t4 : (k : ℕ) → ((5 * k + 1) % 5 == 4) ≡ false
      t4 k = grind (arith, nat_tests)

      place : (k : ℕ) → (5 * k + 1) / 5 ≡ k
      place k = omega arith

  pub lower_line : (k : ℕ) → line (expect_lower k) ≡ sites k
  lower_line k = at_number (5 * k + 2) k false false false (t0 k) (t3 k) (t4 k) (place k)
    where
      t0 : (k : ℕ) → ((5 * k + 2) % 5 == 0) ≡ false
      t0 k = grind (arith, nat_tests)

      t3 : (k : ℕ) → ((5 * k + 2) % 5 == 3) ≡ false
      t3 k = grind (arith, nat_tests)

      t4 : (k : ℕ) → ((5 * k + 2) % 5 == 4) ≡ false
      t4 k = grind (arith, nat_tests)

      place : (k : ℕ) → (5 * k + 2) / 5 ≡ k
      place k = omega arith

  pub bra_line : (k : ℕ) → line (expect_bra k) ≡ (bra_right k).sectors
  bra_line k = at_number (5 * k + 3) k false true false (t0 k) (t3 k) (t4 k) (place k)
    where
      t0 : (k : ℕ) → ((5 * k + 3) % 5 == 0) ≡ false
      t0 k = grind (arith, nat_tests)

      t3 : (k : ℕ) → ((5 * k + 3) % 5 == 3) ≡ true
      t3 k = grind (arith, nat_tests)

      t4 : (k : ℕ) → ((5 * k + 3) % 5 == 4) ≡ false
      t4 k = grind (arith, nat_tests)

      place : (k : ℕ) → (5 * k + 3) / 5 ≡ k
      place k = omega arith

  pub op_line : (k : ℕ) → line (expect_op k) ≡ (op_right k).sectors
  op_line k = at_number (5 * k + 4) k false false true (t0 k) (t3 k) (t4 k) (place k)
    where
      t0 : (k : ℕ) → ((5 * k + 4) % 5 == 0) ≡ false
      t0 k = grind (arith, nat_tests)

      t3 : (k : ℕ) → ((5 * k + 4) % 5 == 3) ≡ false
      t3 k = grind (arith, nat_tests)

      t4 : (k : ℕ) → ((5 * k + 4) % 5 == 4) ≡ true
      t4 k = grind (arith, nat_tests)

      place : (k : ℕ) → (5 * k + 4) / 5 ≡ k
      place k = omega arith

  pub ket_line : (k : ℕ) → line (expect_ket k) ≡ (ket_right k).sectors
  ket_line k = at_number (5 * k + 5) (suc k) true false false (t0 k) (t3 k) (t4 k) (place k) ∙ ap (λ i. (ket_right i).sectors) (back k)
    where
      t0 : (k : ℕ) → ((5 * k + 5) % 5 == 0) ≡ true
      t0 k = grind (arith, nat_tests)

      t3 : (k : ℕ) → ((5 * k + 5) % 5 == 3) ≡ false
      t3 k = grind (arith, nat_tests)

      t4 : (k : ℕ) → ((5 * k + 5) % 5 == 4) ≡ false
      t4 k = grind (arith, nat_tests)

      place : (k : ℕ) → (5 * k + 5) / 5 ≡ suc k
      place k = omega arith

      back : (k : ℕ) → suc k - 1 ≡ k
      back k = omega arith

module _ (fs : List Factor) (sites : ℕ → List SectorValue) (bra_right op_right ket_right : ℕ → LegValue) (bra op ket : ℕ → TensorValue) (m : ℕ)
    (bra_is : IsState sites bra_right bra m) (op_is : IsOperator sites op_right op m) (ket_is : IsState sites ket_right ket m)
    (qs : List Placed) (conj : AllConjugate (state_placed expect_upper expect_bra bra m) qs) where
  abbrev the_line : ℤ → List SectorValue
  the_line = expect_line sites bra_right op_right ket_right

  abbrev dim : ℕ → ℕ
  dim j = total (sites j)

  abbrev bra_piece : ℕ → Piece
  bra_piece = piece_of bra_right bra

  abbrev op_piece : ℕ → Piece
  op_piece = piece_of op_right op

  abbrev ket_piece : ℕ → Piece
  ket_piece = piece_of ket_right ket

  abbrev pub all_lines : List Bond
  all_lines = expect_lines dim bra_piece op_piece ket_piece 0 m

  above : (k r : ℕ) → (r == 0) ≡ false → is_positive (pos (5 * k + r)) ≡ true
  above k r e = grind (arith, nat_tests)

  pub positive_from : (k j : ℕ) → ArePositive (labels (expect_lines dim bra_piece op_piece ket_piece j k))
  positive_from zero j = (above j 1 refl, (above j 2 refl, tt))
  positive_from (suc k) j = (above j 1 refl, (above j 2 refl, (above j 3 refl, (above j 4 refl, (above j 5 refl, positive_from k (suc j))))))

  abbrev op_placed : List Placed
  op_placed = operator_placed expect_upper expect_lower expect_op op m

  abbrev ket_placed : List Placed
  ket_placed = state_placed expect_lower expect_ket ket m

  -- the network's tensors
  abbrev pub all_placed : List Placed
  all_placed = reverse qs ++ (op_placed ++ ket_placed)

  pub nodes_same : AllSame (map node_of all_placed) (expect_nodes bra_piece op_piece ket_piece m)
  nodes_same =
      subst (λ ns. AllSame ns (expect_nodes bra_piece op_piece ket_piece m))
      (sym (map-append node_of (reverse qs) (op_placed ++ ket_placed) ∙ ap (λ ns. map node_of (reverse qs) ++ ns) (map-append node_of op_placed ket_placed)))
      (same-both (map node_of (reverse qs)) (conj_nodes (state_chain expect_upper expect_bra bra_piece m)) (map node_of op_placed ++ map node_of ket_placed)
      (operator_chain expect_upper expect_lower expect_op op_piece m ++ state_chain expect_lower expect_ket ket_piece m)
      (conj_nodes_are fs sites bra_right bra m bra_is expect_upper expect_bra qs conj)
      (subst (AllSame (map node_of op_placed ++ map node_of ket_placed))
      (ap₂ (λ u v. u ++ v) (operator_nodes fs sites op_right op m op_is expect_upper expect_lower expect_op) (state_nodes fs sites ket_right ket m ket_is expect_lower expect_ket))
      (same_all (map node_of op_placed ++ map node_of ket_placed))))

  pub net : IsNetwork (map node_of all_placed) all_lines []
  net = same_network (map node_of all_placed) (expect_nodes bra_piece op_piece ket_piece m) all_lines [] nodes_same (expect_net_network dim bra_piece op_piece ket_piece m)

  slots_are : slots all_placed ≡ slots (reverse qs) ++ (slots op_placed ++ slots ket_placed)
  slots_are = slots-both (reverse qs) (op_placed ++ ket_placed) ∙ ap (λ ss. slots (reverse qs) ++ ss) (slots-both op_placed ket_placed)

  pub bonds_are : Perm (bonds_from [] (slots all_placed)) all_lines
  bonds_are =
      let b : List Bond = chain_links expect_bra bra_piece 0 m in
      let o : List Bond = chain_links expect_op op_piece 0 m in
      let k : List Bond = chain_links expect_ket ket_piece 0 m in
      let p : List Bond = site_lines expect_upper dim 0 (suc m) in
      let t : List Bond = site_lines expect_lower dim 0 (suc m) in
      subst (λ bs. Perm bs all_lines)
      (sym (ap (bonds_from []) slots_are ∙ bonds-append (slots (reverse qs)) (slots op_placed ++ slots ket_placed)
      ∙ ap (λ bs. bonds_from [] (slots (reverse qs)) ++ bs) (bonds-append (slots op_placed) (slots ket_placed))))
      (then_by (perm_both (conj_bonds fs sites bra_right bra m bra_is expect_upper expect_bra qs conj (λ j. above j 3 refl) (λ j. above j 1 refl))
      (perm_both
      (subst (λ bs. Perm (bonds_from [] (slots op_placed)) (o ++ bs)) (site_bonds fs sites op_right op m op_is expect_upper expect_lower expect_op (λ j. above j 2 refl) (suc m) 0)
      (operator_bonds fs sites op_right op m op_is expect_upper expect_lower expect_op (λ j. above j 4 refl)))
      (state_bonds fs sites ket_right ket m ket_is expect_lower expect_ket (λ j. above j 5 refl))))
      (then_by (sorted b o k p t) (perm-sym (split_lines dim bra_piece op_piece ket_piece m 0))))
    where
      sorted : (b o k p t : List Bond) → Perm ((b ++ p) ++ ((o ++ t) ++ k)) (b ++ (o ++ (k ++ (p ++ t))))
      sorted b o k p t =
          subst (λ w. Perm w (b ++ (o ++ (k ++ (p ++ t))))) (sym (append_assoc b p ((o ++ t) ++ k) ∙ ap (λ w. b ++ (p ++ w)) (append_assoc o t k)))
          (perm_under b (then_by (perm_blocks p o (t ++ k)) (perm_under o (then_by (perm_under p (perm_turn t k)) (perm_blocks p k t)))))

  pub lines_are : HaveSectorsOn the_line (slots all_placed)
  lines_are =
      subst (HaveSectorsOn the_line) (sym slots_are)
      (on_both the_line (slots (reverse qs)) (slots op_placed ++ slots ket_placed)
      (conj_lines fs sites bra_right bra m bra_is expect_upper expect_bra qs conj the_line (upper_line sites bra_right op_right ket_right) (bra_line sites bra_right op_right ket_right))
      (on_both the_line (slots op_placed) (slots ket_placed)
      (operator_lines fs sites op_right op m op_is expect_upper expect_lower expect_op the_line (upper_line sites bra_right op_right ket_right) (lower_line sites bra_right op_right ket_right) (op_line sites bra_right op_right ket_right))
      (state_lines fs sites ket_right ket m ket_is expect_lower expect_ket the_line (lower_line sites bra_right op_right ket_right) (ket_line sites bra_right op_right ket_right))))

  abbrev par : ℤ → ℕ → Bool
  par l v = parity_at fs (the_line l) v

  pub expect_value : value_of fs all_placed [] 0 [] ≡
      sum_states dim 0 (suc m) (λ u. sum_states dim 0 (suc m) (λ s. mul_g (conj_g (amplitude_of fs bra m u)) (mul_g (element_of fs op m u s) (amplitude_of fs ket m s))))
  expect_value =
      plain_value fs all_placed 0 all_lines [] net (positive_from m 0) no_opens refl bonds_are the_line lines_are par (λ e h v. refl) []
      ∙ same_flat par (map node_of all_placed) (expect_nodes bra_piece op_piece ket_piece m) all_lines [] nodes_same (at_values [] [])
      ∙ expect_net_value dim bra_piece op_piece ket_piece m par (at_values [] [])
      ∙ ap (sum_states dim 0 (suc m)) (fun_ext (λ u. ap (sum_states dim 0 (suc m)) (fun_ext (λ s. λ i. mul_g
      (conj_g (sym (amplitude_is fs sites bra_right bra m bra_is expect_upper expect_bra the_line (upper_line sites bra_right op_right ket_right) (bra_line sites bra_right op_right ket_right) u) i))
      (mul_g (sym (element_is fs sites op_right op m op_is expect_upper expect_lower expect_op the_line (upper_line sites bra_right op_right ket_right) (lower_line sites bra_right op_right ket_right) (op_line sites bra_right op_right ket_right) u s) i)
      (sym (amplitude_is fs sites ket_right ket m ket_is expect_lower expect_ket the_line (lower_line sites bra_right op_right ket_right) (ket_line sites bra_right op_right ket_right) s) i))))))
