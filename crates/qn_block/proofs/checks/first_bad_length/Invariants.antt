use Rattle.qn_block.specs.Refusals.{BadLengthAt}
use Rattle.qn_block.proofs.Firsts.{NoneBefore}
use Rattle.qn_block.proofs.checks.first_bad_length.Given as goal

abbrev pub invariant-loop-block : goal.invariant-loop-block
invariant-loop-block g l = NoneBefore (BadLengthAt l.legs l.blocks) l.block
