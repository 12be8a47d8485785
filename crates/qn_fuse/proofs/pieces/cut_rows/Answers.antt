use Rattle.std.proofs.Common.{◌+◌, ◌*◌}
use Rattle.qn_fuse.specs.Pieces.{piece}
use Rattle.qn_fuse.proofs.Loops.{rows_more, piece_within}
use Rattle.qn_fuse.proofs.pieces.cut_rows.Goals as goal

pub append_piece-requires : goal.append_piece-requires
append_piece-requires c = record {
  within = piece_within c.args.entries.now c.args.rows c.loop-number.number c.args.width c.args.start c.args.len c.loop-number-test.true c.requires.within c.requires.long;
}

pub loop-number-preserved : goal.loop-number-preserved
loop-number-preserved c =
    rows_more (λ i. piece c.args.entries.now (i * c.args.width + c.args.start) c.args.len) c.loop-number.number c.loop-number.pieces.items c.append_piece.new.out.items c.loop-number.invariant
    c.in_ok-append_piece.ensures
