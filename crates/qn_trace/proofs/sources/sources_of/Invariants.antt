use Rattle.qn_trace.proofs.Numbering.{AreSorted}
use Rattle.qn_trace.proofs.sources.sources_of.Given as goal

abbrev pub invariant-loop-block : goal.invariant-loop-block
invariant-loop-block g l = AreSorted l.group l.legs l.couples l.left l.tuples l.blocks l.block-index l.gathered.items
