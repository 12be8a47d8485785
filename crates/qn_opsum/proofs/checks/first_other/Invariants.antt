use Rattle.std.proofs.Common.{ℕ, ◌<◌}
use Rattle.qn_opsum.specs.Refusals.{OtherCharge}
use Rattle.qn_opsum.proofs.checks.first_other.Given as goal

abbrev pub invariant-loop-i : goal.invariant-loop-i
invariant-loop-i g l = (j : ℕ) → j < l.i → OtherCharge l.group l.sites l.terms j → ⊥
