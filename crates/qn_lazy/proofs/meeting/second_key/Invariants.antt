use Rattle.std.proofs.Common.{◌≡◌, take}
use Rattle.qn_lazy.specs.Keys.{second_sectors}
use Rattle.qn_lazy.proofs.meeting.second_key.Given as goal

abbrev pub invariant-loop-pair : goal.invariant-loop-pair
invariant-loop-pair l = l.key.items ≡ second_sectors (take l.pair-index l.shared) l.tuple
