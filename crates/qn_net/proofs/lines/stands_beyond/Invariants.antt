use Rattle.std.proofs.Common.{ℕ, ◌<◌, negsuc}
use Rattle.qn_net.specs.Refusals.{legs_with}
use Rattle.qn_net.proofs.lines.stands_beyond.Given as goal

abbrev pub invariant-loop-k : goal.invariant-loop-k
invariant-loop-k l = (j : ℕ) → l.n < j → j < l.k → 0 < legs_with (negsuc j) l.table → ⊥
