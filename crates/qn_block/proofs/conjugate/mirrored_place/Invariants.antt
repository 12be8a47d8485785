use Rattle.qn_block.proofs.Mirror.{IsMirroring}
use Rattle.qn_block.proofs.conjugate.mirrored_place.Given as goal

abbrev pub invariant-loop-i : goal.invariant-loop-i
invariant-loop-i g l = IsMirroring l.legs l.tuple l.i l.place l.found l.rest
