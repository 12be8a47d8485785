use Rattle.qn_block.proofs.Counted.{IsCounted}
use Rattle.qn_block.proofs.charges.write_tuple.Given as goal

abbrev pub invariant-loop-i : goal.invariant-loop-i
invariant-loop-i g l = IsCounted l.legs l.i l.n l.size l.rest l.tuple
