use Rattle.std.proofs.Common.{◌≡◌, ◌≤◌, ◌<◌, ◌+◌, ◌-◌, length, get_or, subst, arith}
use Rattle.qn_engine.specs.Carrying.{IsOnWay}
use Rattle.qn_plan.specs.Planned.{StepValue}
use Rattle.qn_engine.proofs.Evaluating.{on_next, on_more, costs_more, costs_less}
use Rattle.qn_engine.proofs.evaluation.carry.Goals as goal

pub returns-in-Err-clause-steps : goal.returns-in-Err-clause-steps
returns-in-Err-clause-steps g c =
    let lt : c.loop-i.i < length c.args.planned.now = omega (arith, c.requires.within) in
    let low : c.args.from ≤ c.loop-i.i = omega arith in
    let s : StepValue = c.index-planned-i.result in
    let e : s ≡ get_or c.args.planned.now c.loop-i.i s = c.index-planned-i.is in
    let more = costs_more c.args.planned.now c.args.from c.loop-i.i c.args.steps.now c.loop-i.steps c.take_step.new.steps s low lt e c.loop-i.invariant.1 c.take_step.ensures.steps in
    let less = costs_less c.args.planned.now c.args.from (c.loop-i.i + 1 - c.args.from) (c.args.to - c.args.from) (omega arith) in
    omega (arith, more, less)

pub loop-i-preserved : goal.loop-i-preserved
loop-i-preserved g c =
    let lt : c.loop-i.i < length c.args.planned.now = omega (arith, c.requires.within) in
    let low : c.args.from ≤ c.loop-i.i = omega arith in
    let s : StepValue = c.index-planned-i.result in
    let e : s ≡ get_or c.args.planned.now c.loop-i.i s = c.index-planned-i.is in (
      λ net w.
          let k = c.loop-i.invariant.0 net w in
          on_more net c.args.planned.now c.args.twist.now c.loop-i.i c.loop-i.parts.items c.take_step.new.parts.items k
          (c.in-Ok.ensures.carried net (on_next net c.args.planned.now c.args.twist.now c.loop-i.i s c.loop-i.parts.items k lt e)),
      costs_more c.args.planned.now c.args.from c.loop-i.i c.args.steps.now c.loop-i.steps c.take_step.new.steps s low lt e c.loop-i.invariant.1 c.take_step.ensures.steps,
    )

pub returns-clause-carried : goal.returns-clause-carried
returns-clause-carried g c = λ net w.
    let e : c.loop-i.i ≡ c.args.to = omega (arith, c.requires.order) in
    subst (λ n. IsOnWay net c.args.planned.now c.args.twist.now n c.loop-i.parts.items) e (c.loop-i.invariant.0 net w)
