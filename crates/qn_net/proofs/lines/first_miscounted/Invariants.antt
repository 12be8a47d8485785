use Rattle.std.proofs.Common.{ℕ, ◌<◌}
use Rattle.qn_net.specs.Refusals.{IsMiscounted}
use Rattle.qn_net.proofs.lines.first_miscounted.Given as goal

abbrev pub invariant-loop-n : goal.invariant-loop-n
invariant-loop-n l = (k : ℕ) → k < l.n → IsMiscounted l.table k → ⊥
