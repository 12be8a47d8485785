use Rattle.std.proofs.Common.{ℕ, ◌<◌, get_or}
use Rattle.qn_index.specs.Legs.{LegValue, IsSound}
use Rattle.qn_index.proofs.leg.known_all.Given as goal

abbrev pub invariant-loop-leg : goal.invariant-loop-leg
invariant-loop-leg g l = (k : ℕ) (d : LegValue) → k < l.leg-index → IsSound (get_or l.legs k d)
