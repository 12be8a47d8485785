use Rattle.std.proofs.Common.{◌≡◌, take, filter}
use Rattle.qn_lazy.specs.Keys.{first_sectors, has_key}
use Rattle.qn_lazy.proofs.meeting.looked_up.Given as goal

abbrev pub invariant-loop-tuple : goal.invariant-loop-tuple
invariant-loop-tuple l = l.met.items ≡ filter (λ t. has_key l.keys (first_sectors l.shared t)) (take l.tuple-index l.tuples)
