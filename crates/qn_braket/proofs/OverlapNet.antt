-- The overlap network of two chains.
use Rattle.std.proofs.Common.{◌≡◌, ℕ, zero, suc, ◌+◌, ◌*◌, ◌<◌, ◌==◌, ℤ, pos, Bool, false, List, [], ◌∷◌, ◌++◌, refl, sym, ◌∙◌, ap, ap₂, subst, append_assoc, append-nil, arith, int_eq}
use mathlib.Core.Path.{fun_ext}
use Rattle.std.proofs.lemmas.List.{map-append}
use Rattle.std.proofs.lemmas.Bool.{or_from}
use Rattle.std.proofs.lemmas.Bool.Decides.{nat_tests}
use Rattle.qn_sign.specs.Sign.{is_in, IsDistinct, Perm}
use Rattle.qn_sign.specs.Sign.Perm.{none, keep, then_by}
use Rattle.qn_gauss.specs.Gaussian.{Gaussian, conj_g, mul_g}
use Rattle.qn_value.specs.Networks.{Node, Bond, Assignment, same_end, word, pairs_of, labels, sums, flat, IsNetwork}
use Rattle.qn_sign.proofs.Parity.{perm-refl, perm-sym, perm_under, perm_blocks}
use Rattle.qn_sign.proofs.Order.{distinct-perm, distinct_second}
use Rattle.qn_value.proofs.Sums.{label_test, perm-map}
use Rattle.qn_value.proofs.Steps.{perm_pairs_of}
use Rattle.qn_value.proofs.NetLaws.{end_test, word-append, pairs_of-append}
use Rattle.qn_braket.specs.Conjugates.{conj_nodes}
use Rattle.qn_braket.specs.Brakets.{outs, ins_back}
use Rattle.qn_braket.specs.Pieces.{Piece, chain_links, site_lines, state_chain, piece_amplitude, state_names, sum_states, overlap_nodes, overlap_lines}
use Rattle.qn_braket.specs.ChainLabels.{overlap_site, overlap_bra, overlap_ket}
use Rattle.qn_braket.proofs.Conjugate.{conj_network}
use Rattle.qn_braket.proofs.Overlap
use Rattle.qn_braket.proofs.Overlap.{nested_perm}
use Rattle.qn_braket.proofs.Chained.{distinct_goal, labels_outs, perm_both, sums_states, pos_test, through, drop_block}
use Rattle.qn_braket.proofs.ChainNets.{ends_labels, sites_plain, state_network, state_value}

-- a network of a bra and a ket that are networks, where all labels differ
pub overlap_network : (bra ket : List Node) (b k t bonds : List Bond) → IsNetwork bra b (outs t) → IsNetwork ket k (outs t) →
    Perm bonds (b ++ (k ++ t)) → IsDistinct int_eq (labels bonds) → IsNetwork (conj_nodes bra ++ ket) bonds []
overlap_network bra ket b k t bonds bra_net ket_net split d = record {
  distinct = distinct-perm same_end end_test (perm-sym complete) (distinct_goal bonds [] (subst (IsDistinct int_eq) (sym (append-nil (labels bonds))) d));
  complete = complete;
}
  where
    nested : Perm (ins_back t ++ outs t) (pairs_of t)
    nested = subst (Perm (ins_back t ++ outs t)) (append-nil (pairs_of t))
        (subst (λ es. Perm (ins_back t ++ es) (pairs_of t ++ [])) (append-nil (outs t)) (nested_perm t [] [] none))

    to_pairs : Perm ((pairs_of b ++ ins_back t) ++ (pairs_of k ++ outs t)) (pairs_of b ++ (pairs_of k ++ pairs_of t))
    to_pairs =
        subst (λ w. Perm w (pairs_of b ++ (pairs_of k ++ pairs_of t))) (sym (append_assoc (pairs_of b) (ins_back t) (pairs_of k ++ outs t)))
        (perm_under (pairs_of b) (then_by (perm_blocks (ins_back t) (pairs_of k) (outs t)) (perm_under (pairs_of k) nested)))

    complete : Perm (word (conj_nodes bra ++ ket)) (pairs_of bonds ++ [])
    complete =
        subst (λ w. Perm w (pairs_of bonds ++ [])) (sym (word-append (conj_nodes bra) ket))
        (subst (Perm (word (conj_nodes bra) ++ word ket)) (sym (append-nil (pairs_of bonds)))
        (then_by (perm_both (conj_network bra b (outs t) bra_net).complete ket_net.complete)
        (then_by to_pairs
        (subst (λ w. Perm w (pairs_of bonds)) (pairs_of-append b (k ++ t) ∙ ap (λ es. pairs_of b ++ es) (pairs_of-append k t))
        (perm_pairs_of (perm-sym split))))))

-- the labels

module _ (dim : ℕ → ℕ) (bra ket : ℕ → Piece) where
  -- the labels ascend
  absent : (m j x : ℕ) → x < 3 * j + 1 → is_in int_eq (pos x) (labels (overlap_lines dim bra ket j m)) ≡ false
  absent zero j x h = or_from (int_eq (pos x) (overlap_site j)) false (pos_test x (3 * j + 1) ∙ differ x j h) refl
    where
      differ : (x j : ℕ) → x < 3 * j + 1 → (x == 3 * j + 1) ≡ false
      differ x j h = grind (arith, nat_tests)
  absent (suc m) j x h =
      or_from (int_eq (pos x) (overlap_site j)) _ (pos_test x (3 * j + 1) ∙ differ x j h)
      (or_from (int_eq (pos x) (overlap_bra j)) _ (pos_test x (3 * j + 2) ∙ differ_bra x j h)
      (or_from (int_eq (pos x) (overlap_ket j)) (is_in int_eq (pos x) (labels (overlap_lines dim bra ket (suc j) m))) (pos_test x (3 * j + 3) ∙ differ_ket x j h)
      (absent m (suc j) x (more x j h))))
    where
      differ : (x j : ℕ) → x < 3 * j + 1 → (x == 3 * j + 1) ≡ false
      differ x j h = grind (arith, nat_tests)

      differ_bra : (x j : ℕ) → x < 3 * j + 1 → (x == 3 * j + 2) ≡ false
      differ_bra x j h = grind (arith, nat_tests)

      differ_ket : (x j : ℕ) → x < 3 * j + 1 → (x == 3 * j + 3) ≡ false
      differ_ket x j h = grind (arith, nat_tests)

      more : (x j : ℕ) → x < 3 * j + 1 → x < 3 * suc j + 1
      more x j h = omega (arith, h)

  ascending : (m j : ℕ) → IsDistinct int_eq (labels (overlap_lines dim bra ket j m))
  ascending zero j = (refl, tt)
  ascending (suc m) j = (
    or_from (int_eq (overlap_site j) (overlap_bra j)) _ (pos_test (3 * j + 1) (3 * j + 2) ∙ differ_1 j)
        (or_from (int_eq (overlap_site j) (overlap_ket j)) (is_in int_eq (overlap_site j) (labels (overlap_lines dim bra ket (suc j) m)))
        (pos_test (3 * j + 1) (3 * j + 3) ∙ differ_2 j) (absent m (suc j) (3 * j + 1) (less_1 j))),
    (
      or_from (int_eq (overlap_bra j) (overlap_ket j)) (is_in int_eq (overlap_bra j) (labels (overlap_lines dim bra ket (suc j) m)))
          (pos_test (3 * j + 2) (3 * j + 3) ∙ differ_3 j) (absent m (suc j) (3 * j + 2) (less_2 j)),
      (absent m (suc j) (3 * j + 3) (less_3 j), ascending m (suc j)),
    ),
  )
    where
      differ_1 : (j : ℕ) → (3 * j + 1 == 3 * j + 2) ≡ false
      differ_1 j = grind (arith, nat_tests)

      differ_2 : (j : ℕ) → (3 * j + 1 == 3 * j + 3) ≡ false
      differ_2 j = grind (arith, nat_tests)

      differ_3 : (j : ℕ) → (3 * j + 2 == 3 * j + 3) ≡ false
      differ_3 j = grind (arith, nat_tests)

      less_1 : (j : ℕ) → 3 * j + 1 < 3 * suc j + 1
      less_1 j = omega arith

      less_2 : (j : ℕ) → 3 * j + 2 < 3 * suc j + 1
      less_2 j = omega arith

      less_3 : (j : ℕ) → 3 * j + 3 < 3 * suc j + 1
      less_3 j = omega arith

  -- the lines are those of the bra, of the ket and of the sites
  pub split_lines : (m j : ℕ) → Perm (overlap_lines dim bra ket j m) (chain_links overlap_bra bra j m ++ (chain_links overlap_ket ket j m ++ site_lines overlap_site dim j (suc m)))
  split_lines zero j = perm-refl (record { label = overlap_site j; dim = dim j; twisted = false } ∷ [])
  split_lines (suc m) j =
      let s : Bond = record { label = overlap_site j; dim = dim j; twisted = false } in
      let b : Bond = record { label = overlap_bra j; dim = (bra j).right_dim; twisted = false } in
      let k : Bond = record { label = overlap_ket j; dim = (ket j).right_dim; twisted = false } in
      let bs : List Bond = chain_links overlap_bra bra (suc j) m in
      let ks : List Bond = chain_links overlap_ket ket (suc j) m in
      let ts : List Bond = site_lines overlap_site dim (suc j) (suc m) in
      then_by (keep (keep (then_by (keep (split_lines m (suc j))) (through k bs (perm-refl (k ∷ (ks ++ ts)))))))
      (through s (b ∷ bs) (through s (k ∷ ks) (perm-refl (s ∷ ts))))

  module _ (m : ℕ) where
    abbrev b : List Bond
    b = chain_links overlap_bra bra 0 m

    abbrev k : List Bond
    k = chain_links overlap_ket ket 0 m

    abbrev t : List Bond
    t = site_lines overlap_site dim 0 (suc m)

    all_distinct : IsDistinct int_eq (labels b ++ (labels k ++ labels t))
    all_distinct =
        subst (IsDistinct int_eq) (map-append (λ (x : Bond). x.label) b (k ++ t) ∙ ap (λ ls. labels b ++ ls) (map-append (λ (x : Bond). x.label) k t))
        (distinct-perm int_eq label_test (perm-map (λ (x : Bond). x.label) (split_lines m 0)) (ascending m 0))

    bra_distinct : IsDistinct int_eq (labels b ++ ends_labels (outs t))
    bra_distinct = subst (λ ls. IsDistinct int_eq (labels b ++ ls)) (sym (labels_outs t)) (drop_block (labels b) (labels k) (labels t) all_distinct)

    ket_distinct : IsDistinct int_eq (labels k ++ ends_labels (outs t))
    ket_distinct = subst (λ ls. IsDistinct int_eq (labels k ++ ls)) (sym (labels_outs t)) (distinct_second int_eq (labels b) (labels k ++ labels t) all_distinct)

    site_distinct : IsDistinct int_eq (labels t)
    site_distinct = distinct_second int_eq (labels k) (labels t) (distinct_second int_eq (labels b) (labels k ++ labels t) all_distinct)

    pub overlap_net_network : IsNetwork (overlap_nodes bra ket m) (overlap_lines dim bra ket 0 m) []
    overlap_net_network =
        overlap_network (state_chain overlap_site overlap_bra bra m) (state_chain overlap_site overlap_ket ket m) b k t (overlap_lines dim bra ket 0 m)
        (state_network overlap_site overlap_bra bra dim m bra_distinct) (state_network overlap_site overlap_ket ket dim m ket_distinct) (split_lines m 0) (ascending m 0)

    pub overlap_net_value : (par : ℤ → ℕ → Bool) (a : Assignment) →
        flat par (overlap_nodes bra ket m) (overlap_lines dim bra ket 0 m) [] a ≡
        sum_states dim 0 (suc m) (λ s.
        mul_g (conj_g (piece_amplitude (λ l. par (state_names overlap_site overlap_bra l)) dim bra m s))
        (piece_amplitude (λ l. par (state_names overlap_site overlap_ket l)) dim ket m s))
    overlap_net_value par a =
        let bra_nodes : List Node = state_chain overlap_site overlap_bra bra m in
        let ket_nodes : List Node = state_chain overlap_site overlap_ket ket m in
        let bra_net : IsNetwork bra_nodes b (outs t) = state_network overlap_site overlap_bra bra dim m bra_distinct in
        let ket_net : IsNetwork ket_nodes k (outs t) = state_network overlap_site overlap_ket ket dim m ket_distinct in
        Overlap.overlap_law par bra_nodes ket_nodes b k t (overlap_lines dim bra ket 0 m) bra_net ket_net
        (overlap_network bra_nodes ket_nodes b k t (overlap_lines dim bra ket 0 m) bra_net ket_net (split_lines m 0) (ascending m 0)) (split_lines m 0) (sites_plain overlap_site dim (suc m) 0) a
        ∙ ap (λ (f : Assignment → Gaussian). sums t f a) (fun_ext (λ s. ap₂ (λ x y. mul_g (conj_g x) y)
        (state_value par overlap_site overlap_bra bra dim m bra_distinct s)
        (state_value par overlap_site overlap_ket ket dim m ket_distinct s)))
        ∙ sums_states overlap_site dim (suc m) 0 site_distinct (λ s.
        mul_g (conj_g (piece_amplitude (λ l. par (state_names overlap_site overlap_bra l)) dim bra m s))
        (piece_amplitude (λ l. par (state_names overlap_site overlap_ket l)) dim ket m s)) a
