use Rattle.std.proofs.Common.{ℕ, ◌<◌, length, get_or}
use Rattle.qn_index.specs.Legs.{LegValue}
use Rattle.qn_index.proofs.shape.is_tuple.Given as goal

abbrev pub invariant-loop-i : goal.invariant-loop-i
invariant-loop-i g l = (k : ℕ) (d : LegValue) → k < l.i → get_or l.tuple k 0 < length (get_or l.legs k d).sectors
