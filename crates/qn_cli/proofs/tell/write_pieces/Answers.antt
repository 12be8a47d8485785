use Rattle.std.proofs.Common.{◌≡◌, ◌++◌, ◌+◌, drop, get_or, sym, ap, ◌∙◌, arith, append_assoc}
use Rattle.qn_cli.specs.Lines.{joined, AppendsFront}
use Rattle.qn_cli.proofs.Pieces.{no_piece, next_piece, appends_both, front_first, front_later}
use Rattle.qn_cli.proofs.tell.write_pieces.Goals as goal
use Rattle.qn_facts.proofs.Results.{on_err}

pub returns-in_err-write_all-clause-part : goal.returns-in_err-write_all-clause-part
returns-in_err-write_all-clause-part g c =
    let so_far = c.loop-piece.invariant.so_far in
    let piece = (get_or c.args.pieces.now c.loop-piece.piece-index no_piece).now in
    let rest = joined (drop (c.loop-piece.piece-index + 1) c.args.pieces.now) in
    let all : so_far.0 ++ (piece ++ rest) ≡ joined c.args.pieces.now = ap (λ l. so_far.0 ++ l) (sym (next_piece c.args.pieces.now c.loop-piece.piece-index c.loop-piece-test.true)) ∙ so_far.2 in
    let here : AppendsFront (g.E.Sink.held c.loop-piece.err) (g.E.Sink.held c.write_all.new.out) piece = (c.in_err-write_all.field-0.0.written, c.in_err-write_all.ensures.part) in
    on_err c.from_residual.result (AppendsFront (g.E.Sink.held c.args.err.now) (g.E.Sink.held c.write_all.new.out) (joined c.args.pieces.now))
    (rw (← all) (front_later (g.E.Sink.held c.args.err.now) (g.E.Sink.held c.loop-piece.err) (g.E.Sink.held c.write_all.new.out) so_far.0 (piece ++ rest) so_far.1 (front_first (g.E.Sink.held c.loop-piece.err) (g.E.Sink.held c.write_all.new.out) piece rest here)))

pub loop-piece-preserved : goal.loop-piece-preserved
loop-piece-preserved g c =
    let so_far = c.loop-piece.invariant.so_far in
    let piece = (get_or c.args.pieces.now c.loop-piece.piece-index no_piece).now in
    let rest = joined (drop (c.loop-piece.piece-index + 1) c.args.pieces.now) in
    let all : so_far.0 ++ (piece ++ rest) ≡ joined c.args.pieces.now = ap (λ l. so_far.0 ++ l) (sym (next_piece c.args.pieces.now c.loop-piece.piece-index c.loop-piece-test.true)) ∙ so_far.2 in
    record {
      so_far = (
        so_far.0 ++ piece,
        appends_both (g.E.Sink.held c.args.err.now) (g.E.Sink.held c.loop-piece.err) (g.E.Sink.held c.write_all.new.out) so_far.0 piece so_far.1 c.in_ok-write_all.ensures.whole,
        append_assoc so_far.0 piece rest ∙ all,
      );
      count = omega (arith, c.write_all.ensures.count, c.loop-piece.invariant.count);
    }
