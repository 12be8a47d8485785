use Rattle.std.proofs.Common.{◌≡◌, ◌+◌, ◌*◌, flat_map}
use Rattle.qn_index.specs.Tuples.{upward}
use Rattle.qn_fuse.specs.Pieces.{piece}
use Rattle.qn_fuse.proofs.pieces.cut_rows.Given as goal

abbrev pub invariant-loop-number : goal.invariant-loop-number
invariant-loop-number l = l.pieces.items ≡ flat_map (λ i. piece l.entries (i * l.width + l.start) l.len) (upward 0 l.number)
