-- The entries of a block, and the order in which they are read where the legs stand in another order.
-- Source: strided arrays, as in Fishman, White and Stoudenmire 2022.
use Rattle.std.specs.Prelude.{ℕ, ◌+◌, ◌-◌, ◌*◌, Bool, List, [], ◌∷◌, slice_index_or}
use Rattle.std.specs.List.{flat_map}
use Rattle.qn_gauss.specs.Gaussian.{Gaussian, zero_g, signed}
use Rattle.qn_index.specs.Legs.{LegValue, sector_at}
use Rattle.qn_index.specs.Tuples.{upward}
use Rattle.qn_index.specs.Places.{block_size}
use Rattle.qn_permute.specs.declared.axis.Axis.{Axis}

abbrev pub no_axis : Axis
no_axis = record { len = 0; stride = 0 }

-- the axes of the block of a tuple: for each leg the number of its sector's values, and the number of entries from one value to the next
abbrev pub axes : List LegValue → List ℕ → List Axis
axes [] t = []
axes (l ∷ ls) [] = []
axes (l ∷ ls) (s ∷ ss) = record { len = (sector_at l.sectors s).dim; stride = block_size ls ss } ∷ axes ls ss

-- the places of the entries that are read along these axes, the last one fastest, from the place `start` on
abbrev pub places : List Axis → ℕ → List ℕ
places [] start = start ∷ []
places (x ∷ xs) start = flat_map (λ i. places xs (start + i * x.stride)) (upward 0 x.len)

-- how far the last of these places is from the first
abbrev pub reach : List Axis → ℕ
reach [] = 0
reach (x ∷ xs) = (x.len - 1) * x.stride + reach xs

-- the entry at a place, with a sign
abbrev pub entry_at_place : List Gaussian → Bool → ℕ → Gaussian
entry_at_place source minus place = signed minus (slice_index_or source place zero_g)
