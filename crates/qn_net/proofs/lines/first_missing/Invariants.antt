use Rattle.std.proofs.Common.{ℕ, ◌<◌, negsuc}
use Rattle.qn_net.specs.Refusals.{legs_with}
use Rattle.qn_net.proofs.lines.first_missing.Given as goal

abbrev pub invariant-loop-n : goal.invariant-loop-n
invariant-loop-n l = (k : ℕ) → k < l.n → 0 < legs_with (negsuc k) l.table
