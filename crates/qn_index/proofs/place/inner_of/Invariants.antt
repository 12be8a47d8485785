use Rattle.qn_index.proofs.Places.{IsMade}
use Rattle.qn_index.proofs.place.inner_of.Given as goal

abbrev pub invariant-loop-i : goal.invariant-loop-i
invariant-loop-i g l = IsMade l.legs l.tuple l.i l.offset l.size l.rest l.inner.items
