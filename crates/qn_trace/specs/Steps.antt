-- A trace of a tensor held in blocks.
use Rattle.std.specs.Prelude.{ℕ, Option, List, [], ◌∷◌}
use Rattle.qn_index.specs.Legs.{LegValue}
use Rattle.qn_index.specs.Tuples.{admitted}
use Rattle.qn_value.specs.Local.{open_legs}
use Rattle.qn_value.specs.Magnitudes.{Place, first_passing, trace_magnitude}
use Rattle.qn_block.specs.Blocked.{BlockedValue, tensor_of}

-- the legs of the result
abbrev pub result_legs : BlockedValue → List (ℕ × ℕ) → List LegValue
result_legs t couples = open_legs (tensor_of t ∷ []) couples

-- the first place of the result at which the sum of magnitudes is above 2^127 - 1: by the admissible tuples, ascending, and in a block by the offset
abbrev pub passing_place : BlockedValue → List (ℕ × ℕ) → Option Place
passing_place t couples = first_passing (trace_magnitude (tensor_of t) couples) (result_legs t couples) (admitted t.group (result_legs t couples) t.flux)
