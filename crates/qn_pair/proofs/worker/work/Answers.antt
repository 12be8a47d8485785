use Rattle.std.proofs.Common.{[], length, arith, sym, ap, ◌∙◌}
use Rattle.qn_pair.specs.Jobs.{JobValue, tuples_of, job}
use Rattle.qn_pair.proofs.Listed.{list_long}
use Rattle.qn_pair.proofs.Loops.{idle}
use Rattle.qn_pair.proofs.worker.work.Goals as goal

pub work_on-requires-clause-count : goal.work_on-requires-clause-count
work_on-requires-clause-count g c κs within =
    c.requires.count ∙ list_long (job c.args.a.now c.args.b.now c.args.shared.now c.args.between_odd) c.args.tasks.now (record { pair = c.requires.pair; tasks_are = c.requires.tasks_are }) ∙ sym (ap (λ (j : JobValue). length (tuples_of j)) c.in-Ok.ensures)

pub invariant_of-job : goal.invariant_of-job
invariant_of-job g c = record { pair = c.requires.pair; tasks_are = c.requires.tasks_are }

pub returns-in-Err-clause-work : goal.returns-in-Err-clause-work
returns-in-Err-clause-work g c =
    ([], [], idle (job c.args.a.now c.args.b.now c.args.shared.now c.args.between_odd) c.args.seat.state, omega arith, omega arith)
