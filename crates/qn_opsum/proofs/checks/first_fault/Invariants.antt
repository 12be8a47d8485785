use Rattle.std.proofs.Common.{ℕ, ◌<◌}
use Rattle.qn_opsum.specs.Sums.{term_at}
use Rattle.qn_opsum.specs.Refusals.{IsGood}
use Rattle.qn_opsum.proofs.checks.first_fault.Given as goal

abbrev pub invariant-loop-term : goal.invariant-loop-term
invariant-loop-term g l = (j : ℕ) → j < l.term → IsGood l.sites (term_at l.terms j).factors
