use Rattle.std.proofs.Common.{drop}
use Rattle.qn_plan.specs.Reached.{IsReached}
use Rattle.qn_plan.proofs.planning.take_labels.Given as goal

abbrev pub invariant-loop-place : goal.invariant-loop-place
invariant-loop-place g l = IsReached l.net (drop l.place l.net.order) l.steps.items l.walk
