use Rattle.qn_kernel.proofs.Frames.{AreGathered}
use Rattle.qn_kernel.proofs.source.sources_of.Given as goal

abbrev pub invariant-loop-pair : goal.invariant-loop-pair
invariant-loop-pair g l = AreGathered l.group l.firsts l.seconds l.shared l.turned l.left l.sectors l.xs l.ys l.pairs l.pair-index l.sources.items
