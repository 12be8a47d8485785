use Rattle.std.proofs.Common.{◌≡◌, ◌++◌, take}
use Rattle.qn_value.specs.Labels.{slots_of, ends}
use Rattle.qn_net.specs.Members.{member_tensor}
use Rattle.qn_net.proofs.labels.add_ends.Given as goal

abbrev pub invariant-loop-j : goal.invariant-loop-j
invariant-loop-j g l = l.list.items ≡ l.initial.list.items ++ ends (slots_of (take l.j (member_tensor l.t.member).legs) (take l.j l.labels))
