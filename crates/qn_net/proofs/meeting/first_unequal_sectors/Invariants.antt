use Rattle.std.proofs.Common.{ℕ, ◌<◌}
use Rattle.qn_net.specs.Members.{slots_of_members}
use Rattle.qn_net.specs.Refusals.{HasUnequalSectors}
use Rattle.qn_net.proofs.meeting.first_unequal_sectors.Given as goal

abbrev pub invariant-loop-n : goal.invariant-loop-n
invariant-loop-n g l = (k : ℕ) → k < l.n → HasUnequalSectors (slots_of_members l.tensors) k → ⊥
