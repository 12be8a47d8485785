-- Other orders of bonds and of legs.
use Rattle.std.specs.Prelude.{◌≡◌, ◌∷◌, ◌++◌, List, []}
use Rattle.qn_sign.specs.Sign.{exchange_sign, Perm}
use Rattle.qn_gauss.specs.Gaussian.{signed}
use Rattle.qn_value.specs.Networks.{End, Node, Bond, Assignment, Parities, same_end, odd_end, flat, values, moved, IsHomogeneous, IsNetwork}

-- the order in which the bonds are named does not matter
abbrev pub OrderLaw : Type 0
OrderLaw =
    (par : Parities) (tensors : List Node) (bonds others : List Bond) (opens : List End) →
    IsNetwork tensors bonds opens → Perm bonds others → (a : Assignment) →
    flat par tensors bonds opens a ≡ flat par tensors others opens a

-- one tensor is left, and no bond: its legs are brought into the order of the open ends
abbrev pub FinalLaw : Type 0
FinalLaw =
    (par : Parities) (x : Node) (opens : List End) (a : Assignment) →
    flat par (x ∷ []) [] opens a ≡ signed (exchange_sign same_end (odd_end par a) x.ends opens) (x.entry (values x.ends a))

-- a tensor with its legs in another order stands for it
abbrev pub MovedLaw : Type 0
MovedLaw =
    (par : Parities) (pre : List Node) (x : Node) (post : List Node) (bonds : List Bond) (order opens : List End) →
    IsNetwork (pre ++ (x ∷ post)) bonds opens → Perm x.ends order →
    ((a : Assignment) → flat par (pre ++ (x ∷ post)) bonds opens a ≡ flat par (pre ++ (moved par x order ∷ post)) bonds opens a)
    × IsNetwork (pre ++ (moved par x order ∷ post)) bonds opens
    × (IsHomogeneous par x → IsHomogeneous par (moved par x order))

-- the open legs in another order
abbrev pub OpensLaw : Type 0
OpensLaw =
    (par : Parities) (ns : List Node) (bonds : List Bond) (others opens : List End) →
    IsNetwork ns bonds others → Perm others opens → (a : Assignment) →
    flat par ns bonds opens a ≡ signed (exchange_sign same_end (odd_end par a) others opens) (flat par ns bonds others a)
