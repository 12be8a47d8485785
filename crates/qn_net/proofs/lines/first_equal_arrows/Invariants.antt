use Rattle.std.proofs.Common.{ℕ, ◌<◌}
use Rattle.qn_net.specs.Refusals.{HasEqualArrows}
use Rattle.qn_net.proofs.lines.first_equal_arrows.Given as goal

abbrev pub invariant-loop-n : goal.invariant-loop-n
invariant-loop-n l = (k : ℕ) → k < l.n → HasEqualArrows l.table k → ⊥
