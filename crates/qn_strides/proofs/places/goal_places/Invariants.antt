use Rattle.std.proofs.Common.{length}
use Rattle.qn_strides.proofs.Placing.{IsPlaced}
use Rattle.qn_strides.proofs.places.goal_places.Given as goal

abbrev pub invariant-loop-rest : goal.invariant-loop-rest
invariant-loop-rest g l = IsPlaced l.legs l.couples l.rest l.goal.items

abbrev pub decreases-loop-rest : goal.decreases-loop-rest
decreases-loop-rest g l = length l.rest
