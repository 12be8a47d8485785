use Rattle.std.proofs.Common.{[], ◌∷◌, sym, append-nil, subst}
use Rattle.qn_block.specs.declared.step.StepFault.{StepFault}
use Rattle.qn_block.specs.declared.step.StepFault.TheVariants.{Passed}
use Rattle.qn_pair.specs.Jobs.{tuple_at, Passes}
use Rattle.qn_pair.specs.Steps.{IsTaskFault}
use Rattle.qn_pair.proofs.Loops.{looked_at, noted_one, skipped, passing_one, done_one}
use Rattle.qn_pair.proofs.worker.do_task.Goals as goal

pub returns-then-seen-task-clause-one : goal.returns-then-seen-task-clause-one
returns-then-seen-task-clause-one g c = (
  [],
  looked_at (g.T.Tasks.job c.args.tasks.now) c.args.seat.now.state c.look-seen.new.seat.state c.args.task c.look-seen.result c.look-seen.ensures.seen c.look-seen.ensures.before,
  ([], skipped (g.T.Tasks.job c.args.tasks.now) c.args.seat.now.state c.look-seen.new.seat.state c.args.task c.look-seen.result c.look-seen.ensures.seen c.if-seen-task.true, sym (append-nil c.args.done.now.items)),
)

pub returns-in-Ok-push-clause-one : goal.returns-in-Ok-push-clause-one
returns-in-Ok-push-clause-one g c = (
  [],
  looked_at (g.T.Tasks.job c.args.tasks.now) c.args.seat.now.state c.look-seen.new.seat.state c.args.task c.look-seen.result c.look-seen.ensures.seen c.look-seen.ensures.before,
  ((c.args.task, c.in-Ok.block) ∷ [], done_one (g.T.Tasks.job c.args.tasks.now) c.args.task c.look-seen.new.seat.state.seen c.in-Ok.block c.in-Ok.ensures.clear c.in-Ok.ensures.block, c.in-Ok-push.ensures.items),
)

pub returns-in-Ok-clause-one : goal.returns-in-Ok-clause-one
returns-in-Ok-clause-one g c = ([], looked_at (g.T.Tasks.job c.args.tasks.now) c.args.seat.now.state c.look-seen.new.seat.state c.args.task c.look-seen.result c.look-seen.ensures.seen c.look-seen.ensures.before, tt)

pub returns-in-Err-Passed-clause-one : goal.returns-in-Err-Passed-clause-one
returns-in-Err-Passed-clause-one g c =
    let fault : IsTaskFault (g.T.Tasks.job c.args.tasks.now).first (g.T.Tasks.job c.args.tasks.now).second (g.T.Tasks.job c.args.tasks.now).shared (tuple_at (g.T.Tasks.job c.args.tasks.now) c.args.task) (Passed c.in-Err-Passed.field-0-0 c.in-Err-Passed.field-0-1) = subst (λ (f : StepFault). IsTaskFault (g.T.Tasks.job c.args.tasks.now).first (g.T.Tasks.job c.args.tasks.now).second (g.T.Tasks.job c.args.tasks.now).shared (tuple_at (g.T.Tasks.job c.args.tasks.now) c.args.task) f) c.in-Err-Passed.field-0-is c.in-Err-Passed.ensures.err in
    let passes : Passes (g.T.Tasks.job c.args.tasks.now) c.args.task = (c.in-Err-Passed.field-0-1, fault.1) in (
      c.args.task ∷ [],
      noted_one (g.T.Tasks.job c.args.tasks.now) c.args.seat.now.state c.look-seen.new.seat.state c.note.new.seat.state c.args.task c.look-seen.result c.look-seen.ensures.seen c.look-seen.ensures.before c.note.ensures.noted c.note.ensures.seen_before passes,
      ([], passing_one (g.T.Tasks.job c.args.tasks.now) c.args.task c.note.new.seat.state.seen, sym (append-nil c.args.done.now.items)),
    )

pub returns-clause-one : goal.returns-clause-one
returns-clause-one g c = ([], looked_at (g.T.Tasks.job c.args.tasks.now) c.args.seat.now.state c.look-seen.new.seat.state c.args.task c.look-seen.result c.look-seen.ensures.seen c.look-seen.ensures.before, tt)
