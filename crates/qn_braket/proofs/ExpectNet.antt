-- The expectation network of a bra, an operator and a ket.
use Rattle.std.proofs.Common.{◌≡◌, ℕ, zero, suc, ◌+◌, ◌*◌, ◌<◌, ◌==◌, ℤ, pos, Bool, true, false, List, [], ◌∷◌, ◌++◌, map, refl, sym, ◌∙◌, ap, subst, append_assoc, append-nil, arith, int_eq}
use mathlib.Core.Path.{fun_ext}
use Rattle.std.specs.Prelude.{nat_lt}
use Rattle.std.proofs.lemmas.Bool.{or_from}
use Rattle.std.proofs.lemmas.Bool.Decides.{nat_tests}
use Rattle.qn_sign.specs.Sign.{is_in, IsDistinct, Perm}
use Rattle.qn_sign.specs.Sign.Perm.{none, keep, then_by}
use Rattle.qn_gauss.specs.Gaussian.{Gaussian, conj_g, mul_g}
use Rattle.qn_value.specs.Networks.{End, Node, Bond, Assignment, same_end, word, pairs_of, values, labels, sums, flat, IsNetwork}
use Rattle.qn_sign.proofs.Parity.{perm-refl, perm-sym, perm_under, perm_blocks}
use Rattle.qn_sign.proofs.Order.{distinct-perm, distinct_first, distinct_second, distinct_parts}
use Rattle.qn_value.proofs.Sums.{label_test, perm-map, steady_from, IsSteady, sums-meet}
use Rattle.qn_value.proofs.Steps.{perm_pairs_of}
use Rattle.qn_value.proofs.NetLaws.{end_test, word-append, pairs_of-append, values-agree}
use Rattle.std.proofs.lemmas.List.{map-append}
use Rattle.qn_braket.specs.Conjugates.{across, flip, conj_nodes}
use Rattle.qn_braket.specs.Brakets.{outs, ins_back}
use Rattle.qn_braket.specs.Pieces.{Piece, chain_links, site_lines, state_chain, operator_chain, piece_amplitude, piece_element, state_names, operator_names, sum_states, expect_nodes, expect_lines}
use Rattle.qn_braket.specs.ChainLabels.{expect_upper, expect_lower, expect_bra, expect_op, expect_ket}
use Rattle.qn_braket.proofs.Back.{perm_reverse}
use Rattle.qn_braket.proofs.Conjugate.{conj_network, meets_across}
use Rattle.qn_braket.proofs.Overlap.{nested_perm}
use Rattle.qn_braket.proofs.Expect
use Rattle.qn_braket.proofs.Chained.{distinct_goal, labels_outs, label_in, perm_both, sums_states, through, drop_block, sums-keep}
use Rattle.qn_braket.proofs.ChainNets.{ends_labels, sites_plain, state_network, state_value, operator_network, operator_value}

-- a network of a bra, an operator and a ket that are networks, where all labels differ
pub expect_network : (bra op ket : List Node) (b o k p t bonds : List Bond) → IsNetwork bra b (outs p) → IsNetwork op o (outs p ++ ins_back t) → IsNetwork ket k (outs t) →
    Perm bonds (b ++ (o ++ (k ++ (p ++ t)))) → IsDistinct int_eq (labels bonds) → IsNetwork (conj_nodes bra ++ (op ++ ket)) bonds []
expect_network bra op ket b o k p t bonds bra_net op_net ket_net split d = record {
  distinct = distinct-perm same_end end_test (perm-sym complete) (distinct_goal bonds [] (subst (IsDistinct int_eq) (sym (append-nil (labels bonds))) d));
  complete = complete;
}
  where
    nested : Perm (ins_back t ++ outs t) (pairs_of t)
    nested = subst (Perm (ins_back t ++ outs t)) (append-nil (pairs_of t))
        (subst (λ es. Perm (ins_back t ++ es) (pairs_of t ++ [])) (append-nil (outs t)) (nested_perm t [] [] none))

    inner : Perm (ins_back t ++ (pairs_of k ++ outs t)) (pairs_of k ++ pairs_of t)
    inner = then_by (perm_blocks (ins_back t) (pairs_of k) (outs t)) (perm_under (pairs_of k) nested)

    middle : Perm (ins_back p ++ ((outs p ++ ins_back t) ++ (pairs_of k ++ outs t))) (pairs_of k ++ (pairs_of p ++ pairs_of t))
    middle =
        subst (λ w. Perm (ins_back p ++ w) (pairs_of k ++ (pairs_of p ++ pairs_of t))) (sym (append_assoc (outs p) (ins_back t) (pairs_of k ++ outs t)))
        (then_by (nested_perm p (ins_back t ++ (pairs_of k ++ outs t)) (pairs_of k ++ pairs_of t) inner) (perm_blocks (pairs_of p) (pairs_of k) (pairs_of t)))

    to_pairs : Perm ((pairs_of b ++ ins_back p) ++ ((pairs_of o ++ (outs p ++ ins_back t)) ++ (pairs_of k ++ outs t)))
        (pairs_of b ++ (pairs_of o ++ (pairs_of k ++ (pairs_of p ++ pairs_of t))))
    to_pairs =
        subst (λ w. Perm w (pairs_of b ++ (pairs_of o ++ (pairs_of k ++ (pairs_of p ++ pairs_of t)))))
        (sym (append_assoc (pairs_of b) (ins_back p) ((pairs_of o ++ (outs p ++ ins_back t)) ++ (pairs_of k ++ outs t))
        ∙ ap (λ w. pairs_of b ++ (ins_back p ++ w)) (append_assoc (pairs_of o) (outs p ++ ins_back t) (pairs_of k ++ outs t))))
        (perm_under (pairs_of b) (then_by (perm_blocks (ins_back p) (pairs_of o) ((outs p ++ ins_back t) ++ (pairs_of k ++ outs t))) (perm_under (pairs_of o) middle)))

    pairs_are : pairs_of (b ++ (o ++ (k ++ (p ++ t)))) ≡ pairs_of b ++ (pairs_of o ++ (pairs_of k ++ (pairs_of p ++ pairs_of t)))
    pairs_are =
        pairs_of-append b (o ++ (k ++ (p ++ t)))
        ∙ ap (λ es. pairs_of b ++ es) (pairs_of-append o (k ++ (p ++ t))
        ∙ ap (λ es. pairs_of o ++ es) (pairs_of-append k (p ++ t) ∙ ap (λ es. pairs_of k ++ es) (pairs_of-append p t)))

    complete : Perm (word (conj_nodes bra ++ (op ++ ket))) (pairs_of bonds ++ [])
    complete =
        subst (λ w. Perm w (pairs_of bonds ++ [])) (sym (word-append (conj_nodes bra) (op ++ ket) ∙ ap (λ w. word (conj_nodes bra) ++ w) (word-append op ket)))
        (subst (Perm (word (conj_nodes bra) ++ (word op ++ word ket))) (sym (append-nil (pairs_of bonds)))
        (then_by (perm_both (conj_network bra b (outs p) bra_net).complete (perm_both op_net.complete ket_net.complete))
        (then_by to_pairs (subst (λ w. Perm w (pairs_of bonds)) pairs_are (perm_pairs_of (perm-sym split))))))

-- the labels

lower_label : (x y : ℕ) → x < y → int_eq (pos x) (pos y) ≡ false
lower_label x y h = grind (arith, nat_tests)

module _ (dim : ℕ → ℕ) (bra op ket : ℕ → Piece) where
  -- the labels ascend: x is below 5 j + 1, and so below each label from site j on
  absent : (m j x : ℕ) → x < 5 * j + 1 → is_in int_eq (pos x) (labels (expect_lines dim bra op ket j m)) ≡ false
  absent zero j x h =
      or_from (int_eq (pos x) (expect_upper j)) _ (lower_label x (5 * j + 1) h)
      (or_from (int_eq (pos x) (expect_lower j)) false (lower_label x (5 * j + 2) (more x j h)) refl)
    where
      more : (x j : ℕ) → x < 5 * j + 1 → x < 5 * j + 2
      more x j h = omega (arith, h)
  absent (suc m) j x h =
      or_from (int_eq (pos x) (expect_upper j)) _ (lower_label x (5 * j + 1) h)
      (or_from (int_eq (pos x) (expect_lower j)) _ (lower_label x (5 * j + 2) (more x j 2 h refl))
      (or_from (int_eq (pos x) (expect_bra j)) _ (lower_label x (5 * j + 3) (more x j 3 h refl))
      (or_from (int_eq (pos x) (expect_op j)) _ (lower_label x (5 * j + 4) (more x j 4 h refl))
      (or_from (int_eq (pos x) (expect_ket j)) (is_in int_eq (pos x) (labels (expect_lines dim bra op ket (suc j) m))) (lower_label x (5 * j + 5) (more x j 5 h refl))
      (absent m (suc j) x (later x j h))))))
    where
      more : (x j k : ℕ) → x < 5 * j + 1 → (k == 0) ≡ false → x < 5 * j + k
      more x j k h e = grind (arith, nat_tests)

      later : (x j : ℕ) → x < 5 * j + 1 → x < 5 * suc j + 1
      later x j h = omega (arith, h)

  ascending : (m j : ℕ) → IsDistinct int_eq (labels (expect_lines dim bra op ket j m))
  ascending zero j = (or_from (int_eq (expect_upper j) (expect_lower j)) false (lower_label (5 * j + 1) (5 * j + 2) (step j)) refl, (refl, tt))
    where
      step : (j : ℕ) → 5 * j + 1 < 5 * j + 2
      step j = omega arith
  ascending (suc m) j =
      let end : List ℤ = labels (expect_lines dim bra op ket (suc j) m) in (
        or_from (int_eq (expect_upper j) (expect_lower j)) _ (lower_label (5 * j + 1) (5 * j + 2) (up j 1 2 refl))
            (or_from (int_eq (expect_upper j) (expect_bra j)) _ (lower_label (5 * j + 1) (5 * j + 3) (up j 1 3 refl))
            (or_from (int_eq (expect_upper j) (expect_op j)) _ (lower_label (5 * j + 1) (5 * j + 4) (up j 1 4 refl))
            (or_from (int_eq (expect_upper j) (expect_ket j)) (is_in int_eq (expect_upper j) end) (lower_label (5 * j + 1) (5 * j + 5) (up j 1 5 refl))
            (absent m (suc j) (5 * j + 1) (on j 1 refl))))),
        (
          or_from (int_eq (expect_lower j) (expect_bra j)) _ (lower_label (5 * j + 2) (5 * j + 3) (up j 2 3 refl))
              (or_from (int_eq (expect_lower j) (expect_op j)) _ (lower_label (5 * j + 2) (5 * j + 4) (up j 2 4 refl))
              (or_from (int_eq (expect_lower j) (expect_ket j)) (is_in int_eq (expect_lower j) end) (lower_label (5 * j + 2) (5 * j + 5) (up j 2 5 refl))
              (absent m (suc j) (5 * j + 2) (on j 2 refl)))),
          (
            or_from (int_eq (expect_bra j) (expect_op j)) _ (lower_label (5 * j + 3) (5 * j + 4) (up j 3 4 refl))
                (or_from (int_eq (expect_bra j) (expect_ket j)) (is_in int_eq (expect_bra j) end) (lower_label (5 * j + 3) (5 * j + 5) (up j 3 5 refl))
                (absent m (suc j) (5 * j + 3) (on j 3 refl))),
            (
              or_from (int_eq (expect_op j) (expect_ket j)) (is_in int_eq (expect_op j) end) (lower_label (5 * j + 4) (5 * j + 5) (up j 4 5 refl))
                  (absent m (suc j) (5 * j + 4) (on j 4 refl)),
              (absent m (suc j) (5 * j + 5) (on j 5 refl), ascending m (suc j)),
            ),
          ),
        ),
      )
    where
      up : (j i k : ℕ) → nat_lt i k ≡ true → 5 * j + i < 5 * j + k
      up j i k e = grind (arith, nat_tests)

      on : (j i : ℕ) → nat_lt i 6 ≡ true → 5 * j + i < 5 * suc j + 1
      on j i e = grind (arith, nat_tests)

  -- the lines are those of the three chains and of the sites
  pub split_lines : (m j : ℕ) → Perm (expect_lines dim bra op ket j m)
      (chain_links expect_bra bra j m ++ (chain_links expect_op op j m ++ (chain_links expect_ket ket j m ++ (site_lines expect_upper dim j (suc m) ++ site_lines expect_lower dim j (suc m)))))
  split_lines zero j = perm-refl (record { label = expect_upper j; dim = dim j; twisted = false } ∷ record { label = expect_lower j; dim = dim j; twisted = false } ∷ [])
  split_lines (suc m) j =
      let u : Bond = record { label = expect_upper j; dim = dim j; twisted = false } in
      let l : Bond = record { label = expect_lower j; dim = dim j; twisted = false } in
      let b : Bond = record { label = expect_bra j; dim = (bra j).right_dim; twisted = false } in
      let o : Bond = record { label = expect_op j; dim = (op j).right_dim; twisted = false } in
      let k : Bond = record { label = expect_ket j; dim = (ket j).right_dim; twisted = false } in
      let bs : List Bond = chain_links expect_bra bra (suc j) m in
      let os : List Bond = chain_links expect_op op (suc j) m in
      let ks : List Bond = chain_links expect_ket ket (suc j) m in
      let us : List Bond = site_lines expect_upper dim (suc j) (suc m) in
      let ls : List Bond = site_lines expect_lower dim (suc j) (suc m) in
      then_by (keep (keep (keep (keep (then_by (keep (split_lines m (suc j))) (through k bs (through k os (perm-refl (k ∷ (ks ++ (us ++ ls)))))))))))
      (then_by (keep (keep (keep (through o bs (perm-refl (o ∷ (os ++ (k ∷ (ks ++ (us ++ ls))))))))))
      (then_by (keep (through l (b ∷ bs) (through l (o ∷ os) (through l (k ∷ ks) (through l us (perm-refl (l ∷ ls)))))))
      (through u (b ∷ bs) (through u (o ∷ os) (through u (k ∷ ks) (perm-refl (u ∷ (us ++ (l ∷ ls)))))))))

  module _ (m : ℕ) where
    abbrev b : List Bond
    b = chain_links expect_bra bra 0 m

    abbrev o : List Bond
    o = chain_links expect_op op 0 m

    abbrev k : List Bond
    k = chain_links expect_ket ket 0 m

    abbrev p : List Bond
    p = site_lines expect_upper dim 0 (suc m)

    abbrev t : List Bond
    t = site_lines expect_lower dim 0 (suc m)

    all_distinct : IsDistinct int_eq (labels b ++ (labels o ++ (labels k ++ (labels p ++ labels t))))
    all_distinct =
        subst (IsDistinct int_eq)
        (map-append (λ (x : Bond). x.label) b (o ++ (k ++ (p ++ t)))
        ∙ ap (λ ls. labels b ++ ls) (map-append (λ (x : Bond). x.label) o (k ++ (p ++ t)) ∙ ap (λ ls. labels o ++ ls) (map-append (λ (x : Bond). x.label) k (p ++ t) ∙ ap (λ ls. labels k ++ ls) (map-append (λ (x : Bond). x.label) p t))))
        (distinct-perm int_eq label_test (perm-map (λ (x : Bond). x.label) (split_lines m 0)) (ascending m 0))

    sites_distinct : IsDistinct int_eq (labels p ++ labels t)
    sites_distinct =
        distinct_second int_eq (labels k) (labels p ++ labels t)
        (distinct_second int_eq (labels o) (labels k ++ (labels p ++ labels t)) (distinct_second int_eq (labels b) (labels o ++ (labels k ++ (labels p ++ labels t))) all_distinct))

    bra_distinct : IsDistinct int_eq (labels b ++ ends_labels (outs p))
    bra_distinct =
        subst (λ ls. IsDistinct int_eq (labels b ++ ls)) (sym (labels_outs p))
        (distinct_first int_eq (labels b ++ labels p) (labels t)
        (subst (IsDistinct int_eq) (sym (append_assoc (labels b) (labels p) (labels t)))
        (drop_block (labels b) (labels k) (labels p ++ labels t) (drop_block (labels b) (labels o) (labels k ++ (labels p ++ labels t)) all_distinct))))

    ket_distinct : IsDistinct int_eq (labels k ++ ends_labels (outs t))
    ket_distinct =
        subst (λ ls. IsDistinct int_eq (labels k ++ ls)) (sym (labels_outs t))
        (drop_block (labels k) (labels p) (labels t)
        (distinct_second int_eq (labels o) (labels k ++ (labels p ++ labels t)) (distinct_second int_eq (labels b) (labels o ++ (labels k ++ (labels p ++ labels t))) all_distinct)))

    op_distinct : IsDistinct int_eq (labels o ++ ends_labels (outs p ++ ins_back t))
    op_distinct =
        subst (λ ls. IsDistinct int_eq (labels o ++ ls)) (sym (map-append (λ (e : End). e.label) (outs p) (ins_back t)))
        (distinct-perm int_eq label_test
        (perm_under (labels o) (subst (λ ls. Perm (labels p ++ labels t) (ls ++ ends_labels (ins_back t))) (sym (labels_outs p)) (perm_under (labels p) reverse_labels)))
        (drop_block (labels o) (labels k) (labels p ++ labels t) (distinct_second int_eq (labels b) (labels o ++ (labels k ++ (labels p ++ labels t))) all_distinct)))
      where
        flipped : (bs : List Bond) → ends_labels (map flip (outs bs)) ≡ labels bs
        flipped [] = refl
        flipped (x ∷ bs) = ap (λ ls. x.label ∷ ls) (flipped bs)

        reverse_labels : Perm (labels t) (ends_labels (ins_back t))
        reverse_labels = subst (λ ls. Perm ls (ends_labels (ins_back t))) (flipped t) (perm-map (λ (e : End). e.label) (perm_reverse (map flip (outs t))))

    upper_steady : IsSteady (values (outs p)) t
    upper_steady =
        steady_from t (outs p) (values (outs p)) (values-agree (outs p))
        (λ e h. distinct_parts int_eq label_test e.label (labels p) (labels t) sites_distinct (subst (λ ls. is_in int_eq e.label ls ≡ true) (labels_outs p) (label_in e (outs p) h)))

    pub expect_net_network : IsNetwork (expect_nodes bra op ket m) (expect_lines dim bra op ket 0 m) []
    expect_net_network =
        expect_network (state_chain expect_upper expect_bra bra m) (operator_chain expect_upper expect_lower expect_op op m) (state_chain expect_lower expect_ket ket m)
        b o k p t (expect_lines dim bra op ket 0 m)
        (state_network expect_upper expect_bra bra dim m bra_distinct) (operator_network expect_upper expect_lower expect_op op dim m op_distinct)
        (state_network expect_lower expect_ket ket dim m ket_distinct) (split_lines m 0) (ascending m 0)

    pub expect_net_value : (par : ℤ → ℕ → Bool) (a : Assignment) →
        flat par (expect_nodes bra op ket m) (expect_lines dim bra op ket 0 m) [] a ≡
        sum_states dim 0 (suc m) (λ t. sum_states dim 0 (suc m) (λ s.
        mul_g (conj_g (piece_amplitude (λ l. par (state_names expect_upper expect_bra l)) dim bra m t))
        (mul_g (piece_element (λ l. par (operator_names m expect_upper expect_lower expect_op l)) dim op m t s)
        (piece_amplitude (λ l. par (state_names expect_lower expect_ket l)) dim ket m s))))
    expect_net_value par a =
        let bra_nodes : List Node = state_chain expect_upper expect_bra bra m in
        let op_nodes : List Node = operator_chain expect_upper expect_lower expect_op op m in
        let ket_nodes : List Node = state_chain expect_lower expect_ket ket m in
        let bra_net : IsNetwork bra_nodes b (outs p) = state_network expect_upper expect_bra bra dim m bra_distinct in
        let op_net : IsNetwork op_nodes o (outs p ++ ins_back t) = operator_network expect_upper expect_lower expect_op op dim m op_distinct in
        let ket_net : IsNetwork ket_nodes k (outs t) = state_network expect_lower expect_ket ket dim m ket_distinct in
        Expect.expect_law par bra_nodes op_nodes ket_nodes b o k p t (expect_lines dim bra op ket 0 m) bra_net op_net ket_net
        (expect_network bra_nodes op_nodes ket_nodes b o k p t (expect_lines dim bra op ket 0 m) bra_net op_net ket_net (split_lines m 0) (ascending m 0)) (split_lines m 0)
        (sites_plain expect_upper dim (suc m) 0) (sites_plain expect_lower dim (suc m) 0) a
        ∙ ap (λ (f : Assignment → Gaussian). sums p f a) (fun_ext (λ s'.
        sums-meet t (λ s. mul_g (conj_g (flat par bra_nodes b (outs p) s)) (mul_g (flat par op_nodes o (outs p ++ ins_back t) s) (flat par ket_nodes k (outs t) s)))
        (λ s. both (values (outs p) s) (values (outs t) s)) (λ s meets. λ i. mul_g
        (conj_g (state_value par expect_upper expect_bra bra dim m bra_distinct s i))
        (mul_g
        ((operator_value par expect_upper expect_lower expect_op op dim m op_distinct s
        ∙ ap (piece_element (λ l. par (operator_names m expect_upper expect_lower expect_op l)) dim op m (values (outs p) s)) (values-agree (outs t) (across s) s (meets_across t s meets))) i)
        (state_value par expect_lower expect_ket ket dim m ket_distinct s i))) s'
        ∙ sums-keep t (values (outs p)) upper_steady (λ x s. both x (values (outs t) s)) s'
        ∙ sums_states expect_lower dim (suc m) 0 (distinct_second int_eq (labels p) (labels t) sites_distinct) (both (values (outs p) s')) s'))
        ∙ sums_states expect_upper dim (suc m) 0 (distinct_first int_eq (labels p) (labels t) sites_distinct) (λ x. sum_states dim 0 (suc m) (both x)) a
      where
        both : List ℕ → List ℕ → Gaussian
        both x y =
            mul_g (conj_g (piece_amplitude (λ l. par (state_names expect_upper expect_bra l)) dim bra m x))
            (mul_g (piece_element (λ l. par (operator_names m expect_upper expect_lower expect_op l)) dim op m x y)
            (piece_amplitude (λ l. par (state_names expect_lower expect_ket l)) dim ket m y))
