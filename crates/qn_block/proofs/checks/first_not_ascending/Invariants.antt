use Rattle.qn_block.specs.Refusals.{NotAscendingAt}
use Rattle.qn_block.proofs.Firsts.{NoneBefore}
use Rattle.qn_block.proofs.checks.first_not_ascending.Given as goal

abbrev pub invariant-loop-i : goal.invariant-loop-i
invariant-loop-i l = NoneBefore (NotAscendingAt l.blocks) l.i
