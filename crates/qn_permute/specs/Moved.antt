-- A block with its legs in another order.
-- Source: Fishman, White and Stoudenmire 2022; the sign by the exchange rule of super vector spaces.
use Rattle.std.specs.Prelude.{ℕ, ◌==◌, Bool, List, [], ◌∷◌, length, map}
use Rattle.std.specs.Cmp.Lexicographic.{slice_cmp}
use Rattle.std.specs.Ordering.{nat_cmp, is_lt}
use Rattle.qn_gauss.specs.Gaussian.{Gaussian}
use Rattle.qn_charge.specs.declared.factor.Factor.{Factor}
use Rattle.qn_charge.specs.Charges.{parity}
use Rattle.qn_sign.specs.Positions.{positions, is_odd_at}
use Rattle.qn_sign.specs.Sign.{exchange_sign}
use Rattle.qn_index.specs.Legs.{LegValue, sector_at}
use Rattle.qn_value.specs.Tensors.{BlockValue}
use Rattle.qn_value.specs.Local.{picked}
use Rattle.qn_permute.specs.Axes.{no_axis, axes, places, entry_at_place}

-- the parities of a tuple's sectors
abbrev pub sector_parities : List Factor → List LegValue → List ℕ → List Bool
sector_parities fs [] t = []
sector_parities fs (l ∷ ls) [] = []
sector_parities fs (l ∷ ls) (s ∷ ss) = parity fs (sector_at l.sectors s).charge ∷ sector_parities fs ls ss

-- the sign of bringing the sectors of a tuple into another order: all entries of its block have it
abbrev pub block_sign : List Factor → List LegValue → List ℕ → List ℕ → Bool
block_sign fs ls t order = exchange_sign ◌==◌ (is_odd_at (sector_parities fs ls t)) (positions (length ls)) order

-- the entries of a tuple's block with its legs in another order
abbrev pub moved_entries : List Factor → List LegValue → List ℕ → List ℕ → List Gaussian → List Gaussian
moved_entries fs ls order t es = map (entry_at_place es (block_sign fs ls t order)) (places (picked no_axis (axes ls t) order) 0)

-- the block with its legs in another order
abbrev pub moved_block : List Factor → List LegValue → List ℕ → BlockValue → BlockValue
moved_block fs ls order b = record { tuple = picked 0 b.tuple order; entries = moved_entries fs ls order b.tuple b.entries }

-- whether the first block's tuple is below the second's, compared leg by leg
abbrev pub is_before : BlockValue → BlockValue → Bool
is_before a b = is_lt (slice_cmp nat_cmp a.tuple b.tuple)
