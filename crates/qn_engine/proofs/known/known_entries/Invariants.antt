use Rattle.std.proofs.Common.{ℕ, ◌<◌, ◌≤◌, get_or}
use Rattle.qn_gauss.specs.Gaussian.{Gaussian, mag, limit}
use Rattle.qn_engine.proofs.known.known_entries.Given as goal

abbrev pub invariant-loop-z : goal.invariant-loop-z
invariant-loop-z l = (k : ℕ) (d : Gaussian) → k < l.z-index → mag (get_or l.entries k d) ≤ limit
