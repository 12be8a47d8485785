use Rattle.std.proofs.Common.{ℕ, ◌<◌, get_or}
use Rattle.qn_net.specs.Members.{LabelledMember, IsHeld}
use Rattle.qn_net.proofs.network.known_members.Given as goal

abbrev pub invariant-loop-t : goal.invariant-loop-t
invariant-loop-t g l = (k : ℕ) (d : LabelledMember) → k < l.t-index → IsHeld (get_or l.tensors k d).member
