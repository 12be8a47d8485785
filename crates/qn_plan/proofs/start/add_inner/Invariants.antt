use Rattle.std.proofs.Common.{◌≡◌, ◌++◌, length}
use Rattle.qn_plan.specs.Shapes.{inner_labels}
use Rattle.qn_plan.proofs.start.add_inner.Given as goal

abbrev pub invariant-loop-rest : goal.invariant-loop-rest
invariant-loop-rest l = l.list.items ++ inner_labels l.rest ≡ l.initial.list.items ++ inner_labels l.ends

abbrev pub decreases-loop-rest : goal.decreases-loop-rest
decreases-loop-rest l = length l.rest
