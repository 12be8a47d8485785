use Rattle.qn_permute.proofs.Lines.{AreAxes}
use Rattle.qn_permute.proofs.axis.axes_of.Given as goal

abbrev pub invariant-loop-i : goal.invariant-loop-i
invariant-loop-i g l = AreAxes l.legs l.tuple l.i l.size l.out.items
