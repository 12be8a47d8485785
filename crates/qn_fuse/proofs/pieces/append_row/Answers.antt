use Rattle.std.proofs.Common.{sym, subst}
use Rattle.qn_fuse.specs.Pieces.{IsSource}
use Rattle.qn_fuse.proofs.Loops.{row_within}
use Rattle.qn_fuse.proofs.pieces.append_row.Goals as goal

pub append_source-requires-clause-within : goal.append_source-requires-clause-within
append_source-requires-clause-within c =
    row_within c.args.rows c.args.number c.source-item.result c.requires.below
    (subst (IsSource c.args.rows) (sym c.source-item.is) (c.requires.sources c.loop-source.source-index c.source-item.result c.loop-source-test.true))
