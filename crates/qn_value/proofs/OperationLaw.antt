use Rattle.std.proofs.lemmas.List.{map-append}
use Rattle.std.proofs.Common.{◌≡◌, ℕ, ℤ, Bool, true, List, ◌++◌, sym, ◌∙◌, ap, subst, map}
use Rattle.qn_sign.specs.Sign.{is_in, IsDistinct, Perm}
use Rattle.qn_value.specs.Networks.{End, Node, Bond, same_end, word, pairs_of, goal, at_values, contract, kept, relabel, relabel_node, relabel_bond, KeepsApart, IsNetwork, AllAlike}
use Rattle.qn_value.proofs.Sums.{perm-map}
use Rattle.qn_value.proofs.Steps.{parity_law, contract_order}
use Rattle.qn_value.proofs.Relabel.{relabel_law, word-map, pairs_of-map}
use Rattle.qn_value.proofs.AlikeLemmas.{contract_alike, word_all}

-- the renamed network is one
relabel_network : (f : ℤ → ℤ) (ns : List Node) (bs : List Bond) (opens : List End) → IsNetwork ns bs opens → KeepsApart f (word ns) →
    IsNetwork (map (relabel_node f) ns) (map (relabel_bond f) bs) (map (relabel f) opens)
relabel_network f ns bs opens net apart = record {
  distinct = subst (IsDistinct same_end) (sym (word-map f ns)) apart;
  complete =
      subst (λ w. Perm w (goal (map (relabel_bond f) bs) (map (relabel f) opens))) (sym (word-map f ns))
      (subst (λ g. Perm (map (relabel f) (word ns)) g)
      (map-append (relabel f) (pairs_of bs) opens ∙ ap (λ es. es ++ map (relabel f) opens) (sym (pairs_of-map f bs)))
      (perm-map (relabel f) net.complete));
}

-- tensors that are alike have the same network
network_all : (ns ms : List Node) (bs : List Bond) (opens : List End) → AllAlike ns ms → IsNetwork ns bs opens → IsNetwork ms bs opens
network_all ns ms bs opens h net = record {
  distinct = subst (IsDistinct same_end) (word_all ns ms h) net.distinct;
  complete = subst (λ w. Perm w (goal bs opens)) (word_all ns ms h) net.complete;
}

pub operation_law : (names : ℤ → ℤ) (par own : ℤ → ℕ → Bool) (local ns : List Node) (bonds shared : List Bond) (opens : List End) →
    AllAlike (map (relabel_node names) local) ns → IsNetwork local bonds opens → KeepsApart names (word local) →
    ((e : End) → is_in same_end e (word local) ≡ true → (v : ℕ) → par (names e.label) v ≡ own e.label v) →
    Perm (map (relabel_bond names) bonds) shared → map (relabel names) opens ≡ kept ns shared → (xs : List ℕ) →
    (contract own local bonds opens).entry xs ≡ (contract par ns shared (kept ns shared)).entry xs
operation_law names par own local ns bonds shared opens alike net apart same order legs xs =
    let renamed : IsNetwork ns (map (relabel_bond names) bonds) (map (relabel names) opens) =
    network_all (map (relabel_node names) local) ns (map (relabel_bond names) bonds) (map (relabel names) opens) alike (relabel_network names local bonds opens net apart) in
    sym (parity_law (λ l. par (names l)) own local bonds opens net same (at_values opens xs))
    ∙ sym (relabel_law names par local bonds opens net apart xs)
    ∙ ap (λ (n : Node). n.entry xs)
    (contract_alike par (map (relabel_node names) local) ns (map (relabel_bond names) bonds) alike (map (relabel names) opens)
    ∙ contract_order par ns (map (relabel_bond names) bonds) shared (map (relabel names) opens) renamed order
    ∙ ap (contract par ns shared) legs)
