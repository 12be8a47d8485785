use Rattle.std.proofs.Common.{ℕ, ◌<◌}
use Rattle.qn_opsum.specs.Refusals.{BadSite}
use Rattle.qn_opsum.proofs.checks.first_bad_site.Given as goal

abbrev pub invariant-loop-i : goal.invariant-loop-i
invariant-loop-i l = (j : ℕ) → j < l.i → BadSite l.count l.factors j → ⊥
