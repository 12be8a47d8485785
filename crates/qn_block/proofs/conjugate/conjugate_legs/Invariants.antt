use Rattle.std.proofs.Common.{◌≡◌, drop}
use Rattle.qn_block.specs.Blocked.{conjugate_legs}
use Rattle.qn_block.proofs.conjugate.conjugate_legs.Given as goal

abbrev pub invariant-loop-i : goal.invariant-loop-i
invariant-loop-i g l = l.turned.items ≡ conjugate_legs (drop l.i l.legs)
