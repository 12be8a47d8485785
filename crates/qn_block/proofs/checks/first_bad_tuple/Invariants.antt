use Rattle.qn_block.specs.Refusals.{BadTupleAt}
use Rattle.qn_block.proofs.Firsts.{NoneBefore}
use Rattle.qn_block.proofs.checks.first_bad_tuple.Given as goal

abbrev pub invariant-loop-block : goal.invariant-loop-block
invariant-loop-block g l = NoneBefore (BadTupleAt l.legs l.blocks) l.block
