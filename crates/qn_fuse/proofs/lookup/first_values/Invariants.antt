use Rattle.std.proofs.Common.{◌≡◌, take}
use Rattle.qn_index.specs.Places.{values_at}
use Rattle.qn_fuse.proofs.lookup.first_values.Given as goal

abbrev pub invariant-loop-i : goal.invariant-loop-i
invariant-loop-i g l = l.values.items ≡ take l.i (values_at l.legs l.tuple 0)
