use Rattle.std.proofs.Common.{map}
use Rattle.std.specs.Prelude.{string_bytes}
use Rattle.qn_outside.specs.Faults.{Rose}
use Rattle.qn_words.specs.Words.{job_of}
use Rattle.qn_cli.proofs.Completeness.{complete, exact}
use Rattle.qn_cli.proofs.command.run.Goals as goal

pub returns-clause-complete : goal.returns-clause-complete
returns-clause-complete g c =
    complete (c.same_overlap_law.ensures, c.same_expect_law.ensures) (job_of (map string_bytes c.args.words.now)) (g.S.Source.left c.args.source.now) (g.S.Source.left c.obey-status.new.source)
    (g.O.Sink.held c.args.out.now) (g.O.Sink.held c.obey-status.new.out) c.args.steps.now c.obey-status.new.steps c.obey-status.result
    (Rose (g.S.Source.faults c.args.source.now) (g.S.Source.faults c.obey-status.new.source)) c.obey-status.ensures.bytes c.obey-status.ensures.read_fault
    (Rose (g.O.Sink.faults c.args.out.now) (g.O.Sink.faults c.obey-status.new.out)) c.obey-status.ensures.write_fault

pub returns-clause-exact : goal.returns-clause-exact
returns-clause-exact g c =
    exact (c.same_overlap_law.ensures, c.same_expect_law.ensures) (job_of (map string_bytes c.args.words.now)) (g.S.Source.left c.args.source.now) (g.S.Source.left c.obey-status.new.source)
    (g.O.Sink.held c.args.out.now) (g.O.Sink.held c.obey-status.new.out) c.args.steps.now c.obey-status.new.steps c.obey-status.result
    (Rose (g.S.Source.faults c.args.source.now) (g.S.Source.faults c.obey-status.new.source)) c.obey-status.ensures.bytes c.obey-status.ensures.read_fault
