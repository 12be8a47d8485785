use Rattle.std.proofs.Common.{◌≡◌, take}
use Rattle.qn_plan.specs.Shapes.{member_shapes}
use Rattle.qn_plan.proofs.member.shapes_of.Given as goal

abbrev pub invariant-loop-i : goal.invariant-loop-i
invariant-loop-i g l = l.shapes.items ≡ member_shapes 1 (take l.i l.members)
