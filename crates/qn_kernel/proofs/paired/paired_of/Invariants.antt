use Rattle.qn_kernel.proofs.Axes.{ArePaired}
use Rattle.qn_kernel.proofs.paired.paired_of.Given as goal

abbrev pub invariant-loop-pair : goal.invariant-loop-pair
invariant-loop-pair g l = ArePaired l.legs l.tuple l.firsts l.seconds l.shared l.pair-index l.axes.items
