use Rattle.std.proofs.Common.{rules, ◌≡◌, Some, None, arith}
use Rattle.qn_plan.specs.Planned.{first_wide}
use Rattle.qn_engine.specs.Evaluated.{IsEngineFault}
use Rattle.qn_engine.specs.declared.fault.EngineFault.TheVariants.{Passed}
use Rattle.qn_corr.proofs.Agreeing.{wide_in, passing_in, clear_in}
use Rattle.qn_corr.proofs.corr.sweep_whole.Goals as goal

pub returns-in-Err-StepWide-clause-err : goal.returns-in-Err-StepWide-clause-err
returns-in-Err-StepWide-clause-err g c =
    let w : first_wide c.in_ok-net.net ≡ Some c.in-Err-StepWide.step = search rules in
    let all = wide_in c.same_expect_law.ensures c.replaced_law.ensures c.args.chains.now c.in_ok-net.net c.in_ok-net.ensures (Some c.in-Err-StepWide.step) w in
    search (rules, all)

pub returns-in-Err-Wide-clause-err : goal.returns-in-Err-Wide-clause-err
returns-in-Err-Wide-clause-err g c =
    let w : first_wide c.in_ok-net.net ≡ Some c.in-Err-Wide.step = search rules in
    wide_in c.same_expect_law.ensures c.replaced_law.ensures c.args.chains.now c.in_ok-net.net c.in_ok-net.ensures _ w

pub returns-in-Err-Passed-clause-err : goal.returns-in-Err-Passed-clause-err
returns-in-Err-Passed-clause-err g c =
    let f : IsEngineFault c.in_ok-net.net (Passed c.in-Err-Passed.step c.in-Err-Passed.at c.in-Err-Passed.offset) = search rules in
    λ m y. (
      wide_in c.same_expect_law.ensures c.replaced_law.ensures c.args.chains.now c.in_ok-net.net c.in_ok-net.ensures None f.0 m y,
      passing_in c.same_expect_law.ensures c.replaced_law.ensures c.args.chains.now c.in_ok-net.net c.in_ok-net.ensures _ f.1 m y,
    )

pub returns-in-Ok-sweep_planned-clause-clear : goal.returns-in-Ok-sweep_planned-clause-clear
returns-in-Ok-sweep_planned-clause-clear g c =
    clear_in c.same_expect_law.ensures c.replaced_law.ensures c.args.chains.now c.in_ok-net.net c.in_ok-net.ensures c.in-Ok.ensures.narrow c.in-Ok-sweep_planned.ensures.clear

pub returns-in-Ok-sweep_planned-clause-steps : goal.returns-in-Ok-sweep_planned-clause-steps
returns-in-Ok-sweep_planned-clause-steps g c = λ k h. let e = h c.in_ok-net.net c.in_ok-net.ensures in omega (arith, e, c.sweep_planned.ensures.steps)

pub returns-in-Err-Wide-clause-steps : goal.returns-in-Err-Wide-clause-steps
returns-in-Err-Wide-clause-steps g c = λ k h. let e = h c.in_ok-net.net c.in_ok-net.ensures in omega (arith, e, c.sweep_planned.ensures.steps)

pub returns-in-Err-Passed-clause-steps : goal.returns-in-Err-Passed-clause-steps
returns-in-Err-Passed-clause-steps g c = λ k h. let e = h c.in_ok-net.net c.in_ok-net.ensures in omega (arith, e, c.sweep_planned.ensures.steps)
