-- Entries of blocks as strided arrays, and sums along them.
-- Fishman, White and Stoudenmire 2022.
use Rattle.std.specs.Prelude.{◌≡◌, ◌==◌, ◌≤◌, ◌<◌, ◌^◌, ℕ, ◌+◌, ◌*◌, ◌/◌, ◌%◌, Bool, true, not, ◌&&◌, cond, List, [], ◌∷◌, ◌++◌, length, filter, slice_index_or}
use Rattle.std.specs.List.{All}
use Rattle.qn_sign.specs.Positions.{positions, is_odd_at}
use Rattle.qn_sign.specs.Sign.{exchange_sign}
use Rattle.qn_gauss.specs.Gaussian.{Gaussian, zero_g, mag, limit, signed}
use Rattle.qn_index.specs.Tuples.{IsTuple}
use Rattle.qn_charge.specs.declared.factor.Factor.{Factor}
use Rattle.qn_charge.specs.Charges.{parity}
use Rattle.qn_index.specs.Legs.{LegValue, sector_at}
use Rattle.qn_index.specs.Places.{block_size}
use Rattle.qn_value.specs.Networks.{sum_below}
use Rattle.qn_value.specs.Tensors.{BlockValue, same_values}
use Rattle.qn_value.specs.Labels.{is_inward}
use Rattle.qn_value.specs.Local.{no_leg, is_coupled, picked}
use Rattle.qn_value.specs.Magnitudes.{total_below}
use Rattle.qn_value.specs.Rows.{sum_over}

-- the place of the couple's In leg
abbrev pub in_place : List LegValue → ℕ × ℕ → ℕ
in_place ls c = cond (is_inward (slice_index_or ls c.0 no_leg).arrow) c.0 c.1

-- the place of the couple's Out leg
abbrev pub out_place : List LegValue → ℕ × ℕ → ℕ
out_place ls c = cond (is_inward (slice_index_or ls c.0 no_leg).arrow) c.1 c.0

-- the places of the couples' legs, in each couple the In leg first
abbrev pub goal_couples : List LegValue → List (ℕ × ℕ) → List ℕ
goal_couples ls [] = []
goal_couples ls (c ∷ cs) = in_place ls c ∷ out_place ls c ∷ goal_couples ls cs

-- the places of the legs that stand in no couple
abbrev pub open_places : List (ℕ × ℕ) → ℕ → List ℕ
open_places cs n = filter (λ i. not (is_coupled cs i)) (positions n)

-- the goal: the couples, and after them the legs that stay open
abbrev pub goal_places : List LegValue → List (ℕ × ℕ) → List ℕ
goal_places ls cs = goal_couples ls cs ++ open_places cs (length ls)

-- the two legs of each couple have one sector in the tuple
abbrev pub couples_meet : List (ℕ × ℕ) → List ℕ → Bool
couples_meet [] t = true
couples_meet (c ∷ cs) t = (slice_index_or t c.0 0 == slice_index_or t c.1 0) && couples_meet cs t

-- the parities of the sectors of a tuple
abbrev pub sector_parities : List Factor → List LegValue → List ℕ → List Bool
sector_parities fs [] t = []
sector_parities fs (l ∷ ls) [] = []
sector_parities fs (l ∷ ls) (s ∷ ss) = parity fs (sector_at l.sectors s).charge ∷ sector_parities fs ls ss

-- for each leg of a block, how far apart the entries of neighbouring values stand
abbrev pub strides : List LegValue → List ℕ → List ℕ
strides [] t = []
strides (l ∷ ls) [] = []
strides (l ∷ ls) (s ∷ ss) = block_size ls ss ∷ strides ls ss

abbrev pub stride_at : List LegValue → List ℕ → ℕ → ℕ
stride_at ls t i = slice_index_or (strides ls t) i 0

-- the two legs of a couple in a block: how many values they have together, and how far apart the entries of neighbouring values stand
pub record SummedValue : Type 0 where
  pub len : ℕ
  pub stride : ℕ

abbrev pub summed_axes : List LegValue → List ℕ → List (ℕ × ℕ) → List SummedValue
summed_axes ls t [] = []
summed_axes ls t (c ∷ cs) =
    record {
      len = (sector_at (slice_index_or ls (in_place ls c) no_leg).sectors (slice_index_or t (in_place ls c) 0)).dim;
      stride = stride_at ls t c.0 + stride_at ls t c.1;
    } ∷ summed_axes ls t cs

-- an open leg: how far apart the entries of neighbouring values stand in the result's block, and in the block that is summed over
pub record KeptValue : Type 0 where
  pub size : ℕ
  pub stride : ℕ

abbrev pub kept_axes : List ℕ → List LegValue → List ℕ → List ℕ → List KeptValue
kept_axes ws [] rt places = []
kept_axes ws (r ∷ rs) [] places = []
kept_axes ws (r ∷ rs) (s ∷ ss) [] = []
kept_axes ws (r ∷ rs) (s ∷ ss) (p ∷ ps) = record { size = block_size rs ss; stride = slice_index_or ws p 0 } ∷ kept_axes ws rs ss ps

-- the place in the block of the result's n-th entry, where the couples have their first values
abbrev pub start_of : List KeptValue → ℕ → ℕ
start_of [] n = 0
start_of (x ∷ xs) n = (n / x.size) * x.stride + start_of xs (n % x.size)

-- the sum over the values of the couples, from a place on
abbrev pub sum_along : (ℕ → Gaussian) → List SummedValue → ℕ → Gaussian
sum_along g [] p = g p
sum_along g (x ∷ xs) p = sum_below x.len (λ v. sum_along g xs (p + v * x.stride))

-- the same for natural numbers
abbrev pub total_along : (ℕ → ℕ) → List SummedValue → ℕ → ℕ
total_along g [] p = g p
total_along g (x ∷ xs) p = total_below x.len (λ v. total_along g xs (p + v * x.stride))

-- numbers small enough to be gone through in 64 bits

abbrev pub IsSummed : SummedValue → Type 0
IsSummed x = (x.len ≤ 2 ^ 16) × (x.stride ≤ 2 ^ 23)

abbrev pub IsKept : KeptValue → Type 0
IsKept x = (0 < x.size) × (x.stride ≤ 2 ^ 22)
