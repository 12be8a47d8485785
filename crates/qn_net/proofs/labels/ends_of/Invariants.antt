use Rattle.std.proofs.Common.{◌≡◌, take}
use Rattle.qn_net.specs.Members.{ends_of_members}
use Rattle.qn_net.proofs.labels.ends_of.Given as goal

abbrev pub invariant-loop-t : goal.invariant-loop-t
invariant-loop-t g l = l.list.items ≡ ends_of_members (take l.t-index l.tensors)
