use Rattle.std.proofs.Common.{◌≡◌, ◌++◌, length}
use Rattle.qn_plan.specs.Shapes.{ends_left}
use Rattle.qn_plan.proofs.ends.append_ends.Given as goal

abbrev pub invariant-loop-rest : goal.invariant-loop-rest
invariant-loop-rest l = l.out.items ++ ends_left l.summed l.rest ≡ l.initial.out.items ++ ends_left l.summed l.ends

abbrev pub decreases-loop-rest : goal.decreases-loop-rest
decreases-loop-rest l = length l.rest
