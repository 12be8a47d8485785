use Rattle.std.proofs.Common.{ℕ, ◌<◌, get_or}
use Rattle.qn_net.specs.Members.{LabelledMember, IsHeld}
use Rattle.qn_doc.proofs.writing.known_members.Given as goal

abbrev pub invariant-loop-m : goal.invariant-loop-m
invariant-loop-m g l = (k : ℕ) (d : LabelledMember) → k < l.m-index → IsHeld (get_or l.members k d).member
