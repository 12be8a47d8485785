use Rattle.qn_opsum.proofs.Charges.{IsAdded}
use Rattle.qn_opsum.proofs.checks.term_charge.Given as goal

abbrev pub invariant-loop-i : goal.invariant-loop-i
invariant-loop-i g l = IsAdded l.group l.sites l.factors l.i l.sum
