use Rattle.qn_mpo.proofs.Charges.{IsAdded}
use Rattle.qn_mpo.proofs.state.charge_of.Given as goal

abbrev pub invariant-loop-i : goal.invariant-loop-i
invariant-loop-i g l = IsAdded l.sum l.factors l.i l.total
