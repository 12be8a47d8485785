use Rattle.std.proofs.Common.{◌≡◌, flat_map}
use Rattle.qn_index.specs.Tuples.{upward}
use Rattle.qn_fuse.specs.Pieces.{row}
use Rattle.qn_fuse.proofs.pieces.joined_rows.Given as goal

abbrev pub invariant-loop-number : goal.invariant-loop-number
invariant-loop-number l = l.entries.items ≡ flat_map (row l.sources) (upward 0 l.number)
