use Rattle.std.proofs.Common.{◌≡◌, ◌<◌, length, drop}
use Rattle.qn_net.specs.Members.{slots_of_members}
use Rattle.qn_net.specs.Refusals.{slot_at}
use Rattle.qn_net.proofs.meeting.sectors_of.Given as goal

abbrev pub invariant-loop-t : goal.invariant-loop-t
invariant-loop-t g l = record {
  within : l.rest < length (slots_of_members (drop l.t-index l.tensors));
  same : slot_at (slots_of_members (drop l.t-index l.tensors)) l.rest ≡ slot_at (slots_of_members l.tensors) l.k;
}
