use Rattle.qn_strides.proofs.Striding.{AreSummed}
use Rattle.qn_strides.proofs.plan.summed_of.Given as goal

abbrev pub invariant-loop-couple : goal.invariant-loop-couple
invariant-loop-couple g l = AreSummed l.legs l.tuple l.couples l.couple-index l.axes.items
