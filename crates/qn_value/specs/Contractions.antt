-- Steps of a contraction: each leaves the value of the network as it is.
-- NCON, arXiv:1402.0939, for the steps; the exchange rule of super vector spaces for their signs.
use Rattle.std.specs.Prelude.{◌≡◌, ◌&&◌, ◌∷◌, ◌++◌, List, []}
use Rattle.qn_sign.specs.Sign.{Perm}
use Rattle.qn_gauss.specs.Gaussian.{signed}
use Rattle.qn_value.specs.Networks.{End, Node, Bond, Assignment, Parities, word, goal, flat, contract, pairwise, traced, odd_flux, AreWithin, AreHomogeneous, IsHomogeneous, IsNetwork}

-- two neighbouring tensors change places: a sign where both are odd
abbrev pub ExchangeLaw : Type 0
ExchangeLaw =
    (par : Parities) (pre : List Node) (x y : Node) (post : List Node) (bonds : List Bond) (opens : List End) →
    IsNetwork (pre ++ (x ∷ y ∷ post)) bonds opens → IsHomogeneous par x → IsHomogeneous par y → (a : Assignment) →
    flat par (pre ++ (x ∷ y ∷ post)) bonds opens a ≡ signed (x.odd && y.odd) (flat par (pre ++ (y ∷ x ∷ post)) bonds opens a)

-- two neighbouring tensors are contracted over all their common lines, and what is left is a network of the same value
abbrev pub PairLaw : Type 0
PairLaw =
    (par : Parities) (pre : List Node) (x y : Node) (post : List Node) (shared rest : List Bond) (opens : List End) →
    IsNetwork (pre ++ (x ∷ y ∷ post)) (shared ++ rest) opens → AreWithin shared (x ∷ y ∷ []) →
    ((a : Assignment) → flat par (pre ++ (x ∷ y ∷ post)) (shared ++ rest) opens a ≡ flat par (pre ++ (pairwise par x y shared ∷ post)) rest opens a)
    × IsNetwork (pre ++ (pairwise par x y shared ∷ post)) rest opens
    × (IsHomogeneous par x → IsHomogeneous par y → IsHomogeneous par (pairwise par x y shared))

-- one tensor is traced over its own lines
abbrev pub TraceLaw : Type 0
TraceLaw =
    (par : Parities) (pre : List Node) (x : Node) (post : List Node) (couples rest : List Bond) (opens : List End) →
    IsNetwork (pre ++ (x ∷ post)) (couples ++ rest) opens → AreWithin couples (x ∷ []) →
    ((a : Assignment) → flat par (pre ++ (x ∷ post)) (couples ++ rest) opens a ≡ flat par (pre ++ (traced par x couples ∷ post)) rest opens a)
    × IsNetwork (pre ++ (traced par x couples ∷ post)) rest opens
    × (IsHomogeneous par x → IsHomogeneous par (traced par x couples))

-- two tensors, which others may stand between: the second passes these, and the two are contracted
abbrev pub StepLaw : Type 0
StepLaw =
    (par : Parities) (pre : List Node) (x : Node) (between : List Node) (y : Node) (post : List Node) (bonds shared rest : List Bond) (opens : List End) →
    IsNetwork (pre ++ (x ∷ (between ++ (y ∷ post)))) bonds opens → Perm bonds (shared ++ rest) → AreWithin shared (x ∷ y ∷ []) →
    AreHomogeneous par between → IsHomogeneous par y →
    ((a : Assignment) → flat par (pre ++ (x ∷ (between ++ (y ∷ post)))) bonds opens a ≡
    signed (odd_flux between && y.odd) (flat par (pre ++ (pairwise par x y shared ∷ (between ++ post))) rest opens a))
    × IsNetwork (pre ++ (pairwise par x y shared ∷ (between ++ post))) rest opens
    × (IsHomogeneous par x → IsHomogeneous par (pairwise par x y shared))

-- some neighbouring tensors are contracted over lines among them, their other legs in any order, and what is left is a network of the same value
abbrev pub NeighboursLaw : Type 0
NeighboursLaw =
    (par : Parities) (pre mid post : List Node) (shared rest : List Bond) (order opens : List End) →
    IsNetwork (pre ++ (mid ++ post)) (shared ++ rest) opens → Perm (word mid) (goal shared order) →
    ((a : Assignment) → flat par (pre ++ (mid ++ post)) (shared ++ rest) opens a ≡ flat par (pre ++ (contract par mid shared order ∷ post)) rest opens a)
    × IsNetwork (pre ++ (contract par mid shared order ∷ post)) rest opens
    × (AreHomogeneous par mid → IsHomogeneous par (contract par mid shared order))
