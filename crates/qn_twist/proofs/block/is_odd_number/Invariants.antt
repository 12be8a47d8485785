use Rattle.std.proofs.Common.{◌≡◌, drop}
use Rattle.qn_twist.specs.Twisted.{odd_sectors}
use Rattle.qn_twist.proofs.block.is_odd_number.Given as goal

abbrev pub invariant-loop-i : goal.invariant-loop-i
invariant-loop-i g l = l.odd ≡ odd_sectors l.group l.legs (drop l.i l.places) l.tuple
