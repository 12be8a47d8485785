use Rattle.std.proofs.Common.{◌≡◌, take}
use Rattle.qn_index.proofs.leg.copy_legs.Given as goal

abbrev pub invariant-loop-leg : goal.invariant-loop-leg
invariant-loop-leg g l = l.copies.items ≡ take l.leg-index l.legs
