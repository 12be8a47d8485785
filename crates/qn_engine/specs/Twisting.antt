-- Tensors that are twisted before a step, in place of the lines that it sums.
use Rattle.std.specs.Prelude.{ℕ, suc, ℤ, Bool, ◌&&◌, ◌||◌, cond, List, [], ◌∷◌}
use Rattle.std.specs.Ordering.{int_eq}
use Rattle.qn_sign.specs.Sign.{is_in}
use Rattle.qn_index.specs.Legs.{LegValue}
use Rattle.qn_value.specs.Labels.{is_inward}

-- the step sums the leg's line, and the network twists it; all legs count, or only those that point into the tensor
abbrev pub is_twisted_leg : Bool → List ℤ → List ℤ → Bool → ℤ → Bool
is_twisted_leg all summed twist inward l = (all || inward) && (is_in int_eq l summed && is_in int_eq l twist)

-- the places of such legs, the first leg having the place n
abbrev pub twisted_places : Bool → List ℤ → List ℤ → ℕ → List LegValue → List ℤ → List ℕ
twisted_places all summed twist n [] ls = []
twisted_places all summed twist n (g ∷ gs) [] = []
twisted_places all summed twist n (g ∷ gs) (l ∷ ls) =
    cond (is_twisted_leg all summed twist (is_inward g.arrow) l) (n ∷ twisted_places all summed twist (suc n) gs ls) (twisted_places all summed twist (suc n) gs ls)
