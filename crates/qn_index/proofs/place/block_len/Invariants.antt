use Rattle.std.proofs.Common.{◌≡◌, drop}
use Rattle.qn_index.specs.Places.{block_size}
use Rattle.qn_index.proofs.place.block_len.Given as goal

abbrev pub invariant-loop-i : goal.invariant-loop-i
invariant-loop-i g l = l.size ≡ block_size (drop l.i l.legs) (drop l.i l.tuple)
