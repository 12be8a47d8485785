use Rattle.std.proofs.Common.{◌≡◌, take}
use Rattle.qn_lazy.specs.Keys.{first_sectors}
use Rattle.qn_lazy.proofs.meeting.first_key.Given as goal

abbrev pub invariant-loop-pair : goal.invariant-loop-pair
invariant-loop-pair l = l.key.items ≡ first_sectors (take l.pair-index l.shared) l.tuple
