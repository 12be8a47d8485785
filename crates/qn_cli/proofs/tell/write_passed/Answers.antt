use Rattle.std.proofs.Common.{◌++◌, false}
use Rattle.std.specs.Prelude.{codes, decimal}
use Rattle.qn_cli.specs.Lines.{numbers_after, passed_line, AppendsFront}
use Rattle.qn_cli.proofs.Pieces.{front_first, front_later, on_err_with}
use Rattle.qn_cli.proofs.tell.write_passed.Goals as goal
use Rattle.qn_facts.proofs.Results.{on_err}

pub returns-in_err-write_step-clause-part : goal.returns-in_err-write_step-clause-part
returns-in_err-write_step-clause-part g c =
    let first = codes "qntn: passed step " ++ (decimal c.args.step ++ codes " at [") in
    let rest = numbers_after false c.args.at.now ++ (codes "] offset " ++ (decimal c.args.offset ++ codes "\n")) in
    on_err c.from_residual.result (AppendsFront (g.E.Sink.held c.args.err.now) (g.E.Sink.held c.write_step.new.err) (passed_line c.args.step c.args.at.now c.args.offset))
    (front_first (g.E.Sink.held c.args.err.now) (g.E.Sink.held c.write_step.new.err) first rest c.in_err-write_step.ensures.part)

pub returns-in_err-write_numbers-clause-part : goal.returns-in_err-write_numbers-clause-part
returns-in_err-write_numbers-clause-part g c =
    let first = codes "qntn: passed step " ++ (decimal c.args.step ++ codes " at [") in
    let at = numbers_after false c.args.at.now in
    let last = codes "] offset " ++ (decimal c.args.offset ++ codes "\n") in
    on_err c.from_residual-in_err-write_numbers.result (AppendsFront (g.E.Sink.held c.args.err.now) (g.E.Sink.held c.write_numbers.new.err) (passed_line c.args.step c.args.at.now c.args.offset))
    (front_later (g.E.Sink.held c.args.err.now) (g.E.Sink.held c.write_step.new.err) (g.E.Sink.held c.write_numbers.new.err) first (at ++ last) c.in_ok-write_step.ensures.whole
    (front_first (g.E.Sink.held c.write_step.new.err) (g.E.Sink.held c.write_numbers.new.err) at last c.in_err-write_numbers.ensures.part))

pub returns-clause-part : goal.returns-clause-part
returns-clause-part g c =
    let first = codes "qntn: passed step " ++ (decimal c.args.step ++ codes " at [") in
    let at = numbers_after false c.args.at.now in
    let last = codes "] offset " ++ (decimal c.args.offset ++ codes "\n") in
    on_err_with c.write_offset.result (AppendsFront (g.E.Sink.held c.write_numbers.new.err) (g.E.Sink.held c.write_offset.new.err) last)
    (AppendsFront (g.E.Sink.held c.args.err.now) (g.E.Sink.held c.write_offset.new.err) (passed_line c.args.step c.args.at.now c.args.offset))
    (λ q. front_later (g.E.Sink.held c.args.err.now) (g.E.Sink.held c.write_step.new.err) (g.E.Sink.held c.write_offset.new.err) first (at ++ last) c.in_ok-write_step.ensures.whole
    (front_later (g.E.Sink.held c.write_step.new.err) (g.E.Sink.held c.write_numbers.new.err) (g.E.Sink.held c.write_offset.new.err) at last c.in_ok-write_numbers.ensures.whole q))
    c.write_offset.ensures.part
