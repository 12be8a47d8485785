use Rattle.std.proofs.Common.{lit<, inl, inr, arith}
use Rattle.qn_plan.proofs.Bringing.{on_ok}
use Rattle.qn_engine.proofs.FuseParts.{kind_fuse}
use Rattle.qn_engine.proofs.steps.join_step.Goals as goal

pub fuse_first-requires : goal.fuse_first-requires
fuse_first-requires g c = (lit< tt, (lit< tt, (c.in-Some.ensures.1, (c.in-Some.ensures.0, (c.requires.step.0, c.args.done, c.requires.step.1)))))

pub fuse_second-requires : goal.fuse_second-requires
fuse_second-requires g c = (lit< tt, (lit< tt, (c.in-Some-table.ensures.1, (c.in-Some-table.ensures.0, (c.requires.step.0, c.args.done, c.requires.step.1)))))

pub pair_step-requires-after_bounds : goal.pair_step-requires-after_bounds
pair_step-requires-after_bounds g c = λ κs h. (lit< tt, (c.requires.few, (c.requires.some_workers, (c.requires.few_workers, (c.requires.step.0, c.requires.step.1)))))

pub returns-in-Some-clause-value : goal.returns-in-Some-clause-value
returns-in-Some-clause-value g c = λ net w. c.in_ok-fuse_first-in-Some.ensures net c.args.done w

pub returns-in-Some-clause-clear : goal.returns-in-Some-clause-clear
returns-in-Some-clause-clear g c = λ net w clear. w.ready.silent (kind_fuse net c.args.done c.args.first c.args.second c.args.between_odd c.args.summed.now c.args.twist.now w (inl c.in-Some.ensures.0)) clear

pub returns-in-Some-clause-steps : goal.returns-in-Some-clause-steps
returns-in-Some-clause-steps g c = λ net w. omega arith

pub returns-in-Some-table-clause-value : goal.returns-in-Some-table-clause-value
returns-in-Some-table-clause-value g c = λ net w. c.in_ok-fuse_second-in-Some-table.ensures net c.args.done w

pub returns-in-Some-table-clause-clear : goal.returns-in-Some-table-clause-clear
returns-in-Some-table-clause-clear g c = λ net w clear. w.ready.silent (kind_fuse net c.args.done c.args.first c.args.second c.args.between_odd c.args.summed.now c.args.twist.now w (inr c.in-Some-table.ensures.0)) clear

pub returns-in-Some-table-clause-steps : goal.returns-in-Some-table-clause-steps
returns-in-Some-table-clause-steps g c = λ net w. omega arith

pub returns-clause-clear : goal.returns-clause-clear
returns-clause-clear g c = on_ok c.pair_step.result (λ f net w clear. f net w) c.pair_step.ensures.clear

pub returns-clause-steps : goal.returns-clause-steps
returns-clause-steps g c = λ net w. c.pair_step.ensures.steps net w c.in-None.ensures c.in-None-table.ensures

pub returns-clause-value : goal.returns-clause-value
returns-clause-value g c = c.pair_step.ensures.value

pub returns-clause-err : goal.returns-clause-err
returns-clause-err g c = c.pair_step.ensures.err
