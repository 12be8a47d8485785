use Rattle.qn_index.proofs.Places.{IsOffset}
use Rattle.qn_index.proofs.place.offset_of.Given as goal

abbrev pub invariant-loop-i : goal.invariant-loop-i
invariant-loop-i g l = IsOffset l.legs l.tuple l.inner l.i l.size l.offset
