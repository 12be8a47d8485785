use Rattle.std.proofs.Common.{◌≡◌, ◌++◌, drop}
use Rattle.qn_plan.specs.Shapes.{legs_left}
use Rattle.qn_plan.proofs.ends.append_legs.Given as goal

abbrev pub invariant-loop-i : goal.invariant-loop-i
invariant-loop-i g l = l.out.items ++ legs_left l.summed (drop l.i l.ends) (drop l.i l.legs) ≡ l.initial.out.items ++ legs_left l.summed l.ends l.legs
