-- Other names for the labels of a network, and other tensors with the same entries.
use Rattle.std.specs.Prelude.{◌≡◌, ◌∷◌, ◌++◌, ℕ, ℤ, true, List, [], map, if◌then◌else◌}
use Rattle.std.specs.Ordering.{int_eq}
use Rattle.qn_sign.specs.Sign.{is_in, Perm}
use Rattle.qn_value.specs.Networks.{End, Node, Bond, Assignment, Parities, same_end, word, flat, contract, kept, relabel, relabel_node, relabel_bond, KeepsApart, IsHomogeneous, IsNetwork, AreAlike, AllAlike}
use Rattle.qn_value.specs.Labels.{Placed, IsWellLabelled, slots, ends, node_of, bonds_of, opens_of, AreRenamed}

-- the label of the second list that stands where this label stands in the first
abbrev pub name_in : List ℤ → List ℤ → ℤ → ℤ
name_in [] ms l = l
name_in (k ∷ ks) [] l = l
name_in (k ∷ ks) (m ∷ ms) l = if int_eq l k then m else name_in ks ms l

-- k stands in the first list only where m stands in the second
abbrev pub StandsOnly : ℤ → ℤ → List ℤ → List ℤ → Type 0
StandsOnly k m [] [] = Unit {0}
StandsOnly k m [] (m' ∷ ms) = ⊥
StandsOnly k m (k' ∷ ks) [] = ⊥
StandsOnly k m (k' ∷ ks) (m' ∷ ms) = (int_eq k k' ≡ true → int_eq m m' ≡ true) × StandsOnly k m ks ms

-- where two places have one label in the first list, they have one in the second
abbrev pub Follows : List ℤ → List ℤ → Type 0
Follows [] [] = Unit {0}
Follows [] (m ∷ ms) = ⊥
Follows (k ∷ ks) [] = ⊥
Follows (k ∷ ks) (m ∷ ms) = StandsOnly k m ks ms × Follows ks ms

-- such lists give names that take the first to the second
abbrev pub NamesLaw : Type 0
NamesLaw = (ks ms : List ℤ) → Follows ks ms → map (name_in ks ms) ks ≡ ms

-- a contraction does not depend on the names of the lines
abbrev pub RelabelLaw : Type 0
RelabelLaw =
    (names : ℤ → ℤ) (par : Parities) (tensors : List Node) (bonds : List Bond) (opens : List End) →
    IsNetwork tensors bonds opens → KeepsApart names (word tensors) → (xs : List ℕ) →
    (contract par (map (relabel_node names) tensors) (map (relabel_bond names) bonds) (map (relabel names) opens)).entry xs ≡
    (contract (λ l. par (names l)) tensors bonds opens).entry xs

-- tensors with labels in order are one of these networks
abbrev pub LabelsLaw : Type 0
LabelsLaw =
    (ps : List Placed) (twists : List ℤ) (n : ℕ) → IsWellLabelled (ends (slots ps)) n →
    IsNetwork (map node_of ps) (bonds_of twists (slots ps)) (opens_of (ends (slots ps)) n)

-- only the parities of the lines of the network matter
abbrev pub ParityLaw : Type 0
ParityLaw =
    (par other : Parities) (tensors : List Node) (bonds : List Bond) (opens : List End) → IsNetwork tensors bonds opens →
    ((e : End) → is_in same_end e (word tensors) ≡ true → (v : ℕ) → par e.label v ≡ other e.label v) → (a : Assignment) →
    flat par tensors bonds opens a ≡ flat other tensors bonds opens a

-- an operation on tensors with labels of its own is the contraction in the network
abbrev pub OwnLabelsLaw : Type 0
OwnLabelsLaw =
    (names : ℤ → ℤ) (par own : Parities) (local placed : List Placed) (bonds : List Bond) (opens : List End) →
    AreRenamed names local placed → IsNetwork (map node_of local) bonds opens → KeepsApart names (word (map node_of local)) →
    ((e : End) → is_in same_end e (word (map node_of local)) ≡ true → (v : ℕ) → par (names e.label) v ≡ own e.label v) → (xs : List ℕ) →
    (contract par (map node_of placed) (map (relabel_bond names) bonds) (map (relabel names) opens)).entry xs ≡
    (contract own (map node_of local) bonds opens).entry xs

-- a tensor with the right entries stands for another
abbrev pub AlikeLaw : Type 0
AlikeLaw =
    (par : Parities) (pre : List Node) (x y : Node) (post : List Node) (bonds : List Bond) (opens : List End) → AreAlike x y →
    ((a : Assignment) → flat par (pre ++ (x ∷ post)) bonds opens a ≡ flat par (pre ++ (y ∷ post)) bonds opens a)
    × (IsNetwork (pre ++ (x ∷ post)) bonds opens → IsNetwork (pre ++ (y ∷ post)) bonds opens)
    × (IsHomogeneous par x → IsHomogeneous par y)

-- tensors with the right entries are contracted to the same tensor, with the legs that are left in the order of the word or in any other
abbrev pub ContractAlikeLaw : Type 0
ContractAlikeLaw =
    (par : Parities) (ns ms : List Node) (bonds : List Bond) → AllAlike ns ms →
    (contract par ns bonds (kept ns bonds) ≡ contract par ms bonds (kept ms bonds))
    × ((opens : List End) → contract par ns bonds opens ≡ contract par ms bonds opens)

-- an operation of the code: its tensors have labels of its own, and are, but for these, tensors of the network; it sums the same lines, in any order
abbrev pub OperationLaw : Type 0
OperationLaw =
    (names : ℤ → ℤ) (par own : Parities) (local ns : List Node) (bonds shared : List Bond) (opens : List End) →
    AllAlike (map (relabel_node names) local) ns → IsNetwork local bonds opens → KeepsApart names (word local) →
    ((e : End) → is_in same_end e (word local) ≡ true → (v : ℕ) → par (names e.label) v ≡ own e.label v) →
    Perm (map (relabel_bond names) bonds) shared → map (relabel names) opens ≡ kept ns shared → (xs : List ℕ) →
    (contract own local bonds opens).entry xs ≡ (contract par ns shared (kept ns shared)).entry xs
