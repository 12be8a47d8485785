use Rattle.std.proofs.Common.{◌≡◌, take}
use Rattle.qn_net.specs.Members.{member_tensor}
use Rattle.qn_plan.specs.Shapes.{member_ends}
use Rattle.qn_plan.proofs.member.ends_of.Given as goal

abbrev pub invariant-loop-j : goal.invariant-loop-j
invariant-loop-j g l = l.ends.items ≡ member_ends (take l.j (member_tensor l.member.member).legs) (take l.j l.labels)
