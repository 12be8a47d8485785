use Rattle.std.proofs.Common.{◌≡◌, ◌++◌, ◌+◌, drop, get_or, true, false, sym, ap, ◌∙◌, arith, append_assoc}
use Rattle.std.specs.Prelude.{decimal}
use Rattle.serde_json.specs.Written.{comma_if}
use Rattle.qn_cli.specs.Lines.{numbers_after, AppendsFront}
use Rattle.qn_cli.proofs.Pieces.{next_number, appends_both, front_first, front_later}
use Rattle.qn_cli.proofs.tell.write_numbers.Goals as goal
use Rattle.qn_facts.proofs.Results.{on_err}

pub returns-in_err-write_number-clause-part : goal.returns-in_err-write_number-clause-part
returns-in_err-write_number-clause-part g c =
    let so_far = c.loop-n.invariant.so_far in
    let piece = comma_if c.loop-n.later ++ decimal (get_or c.args.numbers.now c.loop-n.n-index 0) in
    let rest = numbers_after true (drop (c.loop-n.n-index + 1) c.args.numbers.now) in
    let all : so_far.0 ++ (piece ++ rest) ≡ numbers_after false c.args.numbers.now = ap (λ l. so_far.0 ++ l) (sym (next_number c.loop-n.later c.args.numbers.now c.loop-n.n-index c.loop-n-test.true)) ∙ so_far.2 in
    on_err c.from_residual.result (AppendsFront (g.E.Sink.held c.args.err.now) (g.E.Sink.held c.write_number.new.err) (numbers_after false c.args.numbers.now))
    (rw (← all) (front_later (g.E.Sink.held c.args.err.now) (g.E.Sink.held c.loop-n.err) (g.E.Sink.held c.write_number.new.err) so_far.0 (piece ++ rest) so_far.1 (front_first (g.E.Sink.held c.loop-n.err) (g.E.Sink.held c.write_number.new.err) piece rest c.in_err-write_number.ensures.part)))

pub loop-n-preserved : goal.loop-n-preserved
loop-n-preserved g c =
    let so_far = c.loop-n.invariant.so_far in
    let piece = comma_if c.loop-n.later ++ decimal (get_or c.args.numbers.now c.loop-n.n-index 0) in
    let rest = numbers_after true (drop (c.loop-n.n-index + 1) c.args.numbers.now) in
    let all : so_far.0 ++ (piece ++ rest) ≡ numbers_after false c.args.numbers.now = ap (λ l. so_far.0 ++ l) (sym (next_number c.loop-n.later c.args.numbers.now c.loop-n.n-index c.loop-n-test.true)) ∙ so_far.2 in
    record {
      so_far = (
        so_far.0 ++ piece,
        appends_both (g.E.Sink.held c.args.err.now) (g.E.Sink.held c.loop-n.err) (g.E.Sink.held c.write_number.new.err) so_far.0 piece so_far.1 c.in_ok-write_number.ensures.whole,
        append_assoc so_far.0 piece rest ∙ all,
      );
      count = omega (arith, c.write_number.ensures.count, c.loop-n.invariant.count);
    }
