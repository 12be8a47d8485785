use Rattle.std.proofs.Common.{rules, ◌≡◌, ◌++◌, List, take, sym, subst}
use Rattle.qn_engine.specs.Parts.{PartValue}
use Rattle.qn_engine.specs.Evaluated.{IsEngineFault}
use Rattle.qn_engine.specs.declared.fault.EngineFault.TheVariants.{Passed}
use Rattle.qn_corr.specs.Correlators.{IsKept}
use Rattle.qn_corr.proofs.Agreeing.{passing_in, clear_kept}
use Rattle.qn_corr.proofs.corr.value_again.Goals as goal

pub returns-in-Err-Passed-clause-err : goal.returns-in-Err-Passed-clause-err
returns-in-Err-Passed-clause-err g c =
    let f : IsEngineFault c.in_ok-net.net (Passed c.in-Err-Passed.step c.in-Err-Passed.at c.in-Err-Passed.offset) = search rules in
    passing_in c.same_expect_law.ensures c.replaced_law.ensures c.args.chains.now c.in_ok-net.net c.in_ok-net.ensures _ f.1

pub returns-in-Ok-renew-clause-clear : goal.returns-in-Ok-renew-clause-clear
returns-in-Ok-renew-clause-clear g c =
    let s : c.as_slice.result.now ≡ c.args.kept.now.items = c.as_slice.ensures.value in
    let b = c.requires.before in
    clear_kept c.same_expect_law.ensures c.replaced_law.ensures c.args.chains.now c.args.plan.now _ _
    (c.in-Ok.ensures.kept b.0 b.1 (subst (λ (ps : List PartValue). IsKept b.0 c.args.plan.now ps b.1) (sym s) b.2) b.3)

pub returns-in-Ok-renew-clause-kept : goal.returns-in-Ok-renew-clause-kept
returns-in-Ok-renew-clause-kept g c = λ old before k h.
    let s : c.as_slice.result.now ≡ c.args.kept.now.items = c.as_slice.ensures.value in
    let made = c.in-Ok.ensures.kept old before (subst (λ (ps : List PartValue). IsKept old c.args.plan.now ps before) (sym s) k) h in
    subst (λ (ps : List PartValue). IsKept c.args.chains.now c.args.plan.now ps c.in-Ok.swept.value) (sym c.in-Ok-renew.ensures.ok)
    (subst (λ (ps : List PartValue). IsKept c.args.chains.now c.args.plan.now (take c.args.place ps ++ c.in-Ok.swept.kept.items) c.in-Ok.swept.value) s made)

pub returns-in-Ok-renew-clause-steps : goal.returns-in-Ok-renew-clause-steps
returns-in-Ok-renew-clause-steps g c = λ old before k q h r. c.sweep_again.ensures.steps old before k (subst (λ (ps : List PartValue). IsKept old c.args.plan.now ps before) (sym c.as_slice.ensures.value) q) h r

pub returns-in-Ok-clause-steps : goal.returns-in-Ok-clause-steps
returns-in-Ok-clause-steps g c = λ old before k q h r. c.sweep_again.ensures.steps old before k (subst (λ (ps : List PartValue). IsKept old c.args.plan.now ps before) (sym c.as_slice.ensures.value) q) h r

pub returns-in-Err-Passed-clause-steps : goal.returns-in-Err-Passed-clause-steps
returns-in-Err-Passed-clause-steps g c = λ old before k q h r. c.sweep_again.ensures.steps old before k (subst (λ (ps : List PartValue). IsKept old c.args.plan.now ps before) (sym c.as_slice.ensures.value) q) h r

pub returns-clause-steps : goal.returns-clause-steps
returns-clause-steps g c = λ old before k q h r. c.sweep_again.ensures.steps old before k (subst (λ (ps : List PartValue). IsKept old c.args.plan.now ps before) (sym c.as_slice.ensures.value) q) h r
