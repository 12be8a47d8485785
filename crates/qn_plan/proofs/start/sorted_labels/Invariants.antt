use Rattle.std.proofs.Common.{◌≡◌, drop}
use Rattle.qn_plan.specs.Shapes.{sorted_labels}
use Rattle.qn_plan.proofs.start.sorted_labels.Given as goal

abbrev pub invariant-loop-i : goal.invariant-loop-i
invariant-loop-i l = l.sorted.items ≡ sorted_labels (drop l.i l.labels)
