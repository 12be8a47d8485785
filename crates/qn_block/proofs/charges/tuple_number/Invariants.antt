use Rattle.qn_block.proofs.Counted.{IsNumbered}
use Rattle.qn_block.proofs.charges.tuple_number.Given as goal

abbrev pub invariant-loop-i : goal.invariant-loop-i
invariant-loop-i g l = IsNumbered l.legs l.tuple l.i l.number
