use Rattle.std.proofs.Common.{◌≡◌, ◌++◌, take}
use Rattle.qn_fuse.specs.Pieces.{row}
use Rattle.qn_fuse.proofs.pieces.append_row.Given as goal

abbrev pub invariant-loop-source : goal.invariant-loop-source
invariant-loop-source l = l.out.items ≡ l.initial.out.items ++ row (take l.source-index l.sources) l.number
