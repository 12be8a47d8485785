use Rattle.std.proofs.Common.{ℕ, ◌<◌}
use Rattle.qn_opsum.specs.Refusals.{BadName}
use Rattle.qn_opsum.proofs.checks.first_unknown.Given as goal

abbrev pub invariant-loop-i : goal.invariant-loop-i
invariant-loop-i g l = (j : ℕ) → j < l.i → BadName l.sites l.factors j → ⊥
