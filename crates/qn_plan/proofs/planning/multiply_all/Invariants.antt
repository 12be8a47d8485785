use Rattle.std.proofs.Common.{[], length}
use Rattle.qn_plan.specs.Reached.{IsReached}
use Rattle.qn_plan.proofs.planning.multiply_all.Given as goal

abbrev pub invariant-loop-alloc : goal.invariant-loop-alloc
invariant-loop-alloc g l = IsReached l.net [] l.steps.items l.walk

abbrev pub decreases-loop-alloc : goal.decreases-loop-alloc
decreases-loop-alloc g l = length l.walk.shapes
