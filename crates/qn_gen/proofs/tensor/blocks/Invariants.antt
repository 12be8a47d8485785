use Rattle.qn_index.specs.Tuples.{admitted}
use Rattle.qn_gen.proofs.Draws.{AreDrawn}
use Rattle.qn_gen.proofs.tensor.blocks.Given as goal

abbrev pub invariant-loop-tuple : goal.invariant-loop-tuple
invariant-loop-tuple l = AreDrawn l.fn.draws.x l.legs (admitted l.group l.legs l.flux) l.tuple-index l.draws.x l.blocks.items
