use Rattle.qn_block.proofs.Written.{IsWritten}
use Rattle.qn_block.proofs.from_fn.write_values.Given as goal

abbrev pub invariant-loop-i : goal.invariant-loop-i
invariant-loop-i g l = IsWritten l.legs l.tuple l.i l.place l.size l.rest l.values
