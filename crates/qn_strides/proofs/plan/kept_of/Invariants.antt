use Rattle.qn_strides.proofs.Striding.{IsKeeping}
use Rattle.qn_strides.proofs.plan.kept_of.Given as goal

abbrev pub invariant-loop-i : goal.invariant-loop-i
invariant-loop-i g l = IsKeeping l.steps l.left l.sectors l.places l.i l.size l.kept.items
