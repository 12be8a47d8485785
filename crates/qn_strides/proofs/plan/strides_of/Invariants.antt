use Rattle.qn_strides.proofs.Striding.{IsStriding}
use Rattle.qn_strides.proofs.plan.strides_of.Given as goal

abbrev pub invariant-loop-i : goal.invariant-loop-i
invariant-loop-i g l = IsStriding l.legs l.tuple l.i l.size l.strides.items
