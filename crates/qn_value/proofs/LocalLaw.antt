use Rattle.std.proofs.Common.{◌≡◌, ℕ, ℤ, Bool, true, List, sym, ◌∙◌, ap, map}
use Rattle.qn_sign.specs.Sign.{is_in}
use Rattle.qn_value.specs.Networks.{End, Bond, word, at_values, same_end, contract, IsNetwork, relabel, relabel_bond, KeepsApart}
use Rattle.qn_value.specs.Labels.{Placed, node_of, AreRenamed}
use Rattle.qn_value.proofs.Steps.{parity_law}
use Rattle.qn_value.proofs.Relabel.{relabel_law}
use Rattle.qn_value.proofs.Renamed.{renamed_nodes}

-- tensors with labels of their own, and the same with the labels of a network
pub local_law : (names : ℤ → ℤ) (par own : ℤ → ℕ → Bool) (local placed : List Placed) (bonds : List Bond) (opens : List End) →
    AreRenamed names local placed → IsNetwork (map node_of local) bonds opens → KeepsApart names (word (map node_of local)) →
    ((e : End) → is_in same_end e (word (map node_of local)) ≡ true → (v : ℕ) → par (names e.label) v ≡ own e.label v) → (xs : List ℕ) →
    (contract par (map node_of placed) (map (relabel_bond names) bonds) (map (relabel names) opens)).entry xs ≡ (contract own (map node_of local) bonds opens).entry xs
local_law names par own local placed bonds opens renamed net apart same xs =
    ap (λ ns. (contract par ns (map (relabel_bond names) bonds) (map (relabel names) opens)).entry xs) (sym (renamed_nodes names local placed renamed))
    ∙ relabel_law names par (map node_of local) bonds opens net apart xs
    ∙ parity_law (λ l. par (names l)) own (map node_of local) bonds opens net same (at_values opens xs)
