use Rattle.std.proofs.Common.{◌≡◌, take, flat_map}
use Rattle.qn_plan.specs.Shapes.{inner_labels}
use Rattle.qn_plan.proofs.start.inner_of.Given as goal

abbrev pub invariant-loop-i : goal.invariant-loop-i
invariant-loop-i g l = l.list.items ≡ flat_map (λ s. inner_labels s.ends) (take l.i l.shapes)
