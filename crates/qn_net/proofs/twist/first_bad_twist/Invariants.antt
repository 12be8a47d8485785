use Rattle.std.proofs.Common.{ℕ, ◌<◌}
use Rattle.qn_net.specs.Refusals.{BadTwistAt}
use Rattle.qn_net.proofs.twist.first_bad_twist.Given as goal

abbrev pub invariant-loop-i : goal.invariant-loop-i
invariant-loop-i l = (k : ℕ) → k < l.i → BadTwistAt l.table l.twist k → ⊥
