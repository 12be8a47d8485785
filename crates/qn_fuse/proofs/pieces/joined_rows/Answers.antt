use Rattle.qn_fuse.specs.Pieces.{row}
use Rattle.qn_fuse.proofs.Loops.{rows_more}
use Rattle.qn_fuse.proofs.pieces.joined_rows.Goals as goal

pub loop-number-preserved : goal.loop-number-preserved
loop-number-preserved c =
    rows_more (row c.args.sources.now) c.loop-number.number c.loop-number.entries.items c.append_row.new.out.items c.loop-number.invariant c.in_ok-append_row.ensures
