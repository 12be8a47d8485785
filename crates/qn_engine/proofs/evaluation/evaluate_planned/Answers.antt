use Rattle.std.proofs.Common.{lit<, length, refl}
use Rattle.qn_engine.proofs.Evaluating.{on_start, on_done, clear_done}
use Rattle.qn_engine.proofs.evaluation.evaluate_planned.Goals as goal

pub returns-in-Err-clause-err : goal.returns-in-Err-clause-err
returns-in-Err-clause-err g c =
    c.in-Err.ensures.err c.args.net.now
    (on_start c.args.net.now c.args.plan.now c.twist.result.now c.in_ok-parts.parts.items c.requires.planned c.twist.ensures c.known_steps.ensures.ready c.requires.narrow c.known_steps.ensures.place c.in_ok-parts.ensures)

pub finished-requires-after_bounds : goal.finished-requires-after_bounds
finished-requires-after_bounds g c = λ κs h. (
  lit< tt,
  (
    lit< tt,
    (
      c.args.net.now,
      on_done c.args.net.now c.args.plan.now c.twist.result.now (length c.args.plan.now) c.carry.new.parts.items refl c.known.ensures.well_formed
          (c.in-Ok.ensures.carried c.args.net.now
          (on_start c.args.net.now c.args.plan.now c.twist.result.now c.in_ok-parts.parts.items c.requires.planned c.twist.ensures c.known_steps.ensures.ready c.requires.narrow c.known_steps.ensures.place c.in_ok-parts.ensures)),
    ),
  ),
)

pub returns-clause-value : goal.returns-clause-value
returns-clause-value g c =
    c.in_ok-finished.ensures.value c.args.net.now (on_done c.args.net.now c.args.plan.now c.twist.result.now (length c.args.plan.now) c.carry.new.parts.items refl c.known.ensures.well_formed
    (c.in-Ok.ensures.carried c.args.net.now
    (on_start c.args.net.now c.args.plan.now c.twist.result.now c.in_ok-parts.parts.items c.requires.planned c.twist.ensures c.known_steps.ensures.ready c.requires.narrow c.known_steps.ensures.place c.in_ok-parts.ensures)))

pub returns-clause-clear : goal.returns-clause-clear
returns-clause-clear g c =
    clear_done c.args.net.now c.args.plan.now c.twist.result.now (length c.args.plan.now) c.carry.new.parts.items refl
    (c.in-Ok.ensures.carried c.args.net.now
    (on_start c.args.net.now c.args.plan.now c.twist.result.now c.in_ok-parts.parts.items c.requires.planned c.twist.ensures c.known_steps.ensures.ready c.requires.narrow c.known_steps.ensures.place c.in_ok-parts.ensures))
