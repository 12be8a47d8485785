use Rattle.std.proofs.Common.{lit<}
use Rattle.qn_pair.specs.Workers.{IsFirst}
use Rattle.qn_pair.proofs.Ending.{outcome_first, outcome_clear}
use Rattle.qn_pair.proofs.Kept.{none_passes, fault_first}
use Rattle.qn_pair.proofs.contraction.all_blocks.Goals as goal

pub first_place-requires : goal.first_place-requires
first_place-requires g c =
    let f : IsFirst c.args.frame.now c.in-Some.task = outcome_first c.args.frame.now c.in_ok-least.least c.in_ok-least.done.items c.in-Some.task c.in-Some.is c.in_ok-least.ensures.outcome in
    (lit< tt, (f.task, f.passes))

pub returns-in-Ok-clause-err : goal.returns-in-Ok-clause-err
returns-in-Ok-clause-err g c =
    fault_first c.args.frame.now c.in-Some.task c.in-Ok.fault (outcome_first c.args.frame.now c.in_ok-least.least c.in_ok-least.done.items c.in-Some.task c.in-Some.is c.in_ok-least.ensures.outcome) c.in-Ok.ensures

pub returns-clause-done : goal.returns-clause-done
returns-clause-done g c = (outcome_clear c.args.frame.now c.in_ok-least.least c.in_ok-least.done.items c.in-None.is c.in_ok-least.ensures.outcome).complete

pub returns-clause-clear : goal.returns-clause-clear
returns-clause-clear g c = none_passes c.args.frame.now (outcome_clear c.args.frame.now c.in_ok-least.least c.in_ok-least.done.items c.in-None.is c.in_ok-least.ensures.outcome).clear
