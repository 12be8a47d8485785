use Rattle.std.proofs.Common.{true, List, ℤ, lit<, sym, ◌∙◌, ap, ap₂, subst}
use Rattle.qn_block.specs.Steps.{IsStepFault}
use Rattle.qn_net.specs.Members.{IsNarrow}
use Rattle.qn_net.specs.NetworkValues.{sectors}
use Rattle.qn_net.specs.Passing.{takes}
use Rattle.qn_engine.specs.Carrying.{step_at}
use Rattle.qn_engine.specs.Labels.{shared_labels}
use Rattle.qn_engine.specs.Parts.{PartValue}
use Rattle.qn_engine.proofs.Making.{same_at, twist_at, labels_at, taken_long, pair_at, pair_made, pair_cost, taken_narrow}
use Rattle.qn_engine.proofs.steps.pair_step.Goals as goal

pub twisted-requires : goal.twisted-requires
twisted-requires g c =
    let net = c.requires.step.0 in (
      lit< tt,
      (
        lit< tt,
        (
          subst IsNarrow (sym (ap (λ (p : PartValue). p.member) c.first.view_is)) (taken_narrow net.group (sectors net) c.args.first c.args.second (takes (step_at net c.args.done)) c.requires.step.1.taken).0,
          labels_at c.args.first _ _ (ap (λ (p : PartValue). p.member) c.first.view_is) (c.deref.ensures.value ∙ ap (λ (p : PartValue). p.labels) c.first.view_is)
              (taken_long net.group (sectors net) c.args.first c.args.second (takes (step_at net c.args.done)) c.requires.step.1.taken).0,
        ),
      ),
    )

pub settled-requires : goal.settled-requires
settled-requires g c =
    let net = c.requires.step.0 in (
      lit< tt,
      (
        lit< tt,
        subst IsNarrow (sym (ap (λ (p : PartValue). p.member) c.second.view_is)) (taken_narrow net.group (sectors net) c.args.first c.args.second (takes (step_at net c.args.done)) c.requires.step.1.taken).1,
      ),
    )

pub contract-requires-after_bounds : goal.contract-requires-after_bounds
contract-requires-after_bounds g c = λ κs h. (
  lit< tt,
  (
    (pair_at c.pair_step_law.ensures c.requires.step.0 c.args.done c.args.first c.args.second c.args.between_odd c.args.summed.now c.args.twist.now c.requires.step.1 c.get-a.result.now c.get-b.result.now c.deref-4.result.now
        (c.entries_of_blocks.ensures.tensor c.get-a.result.now c.known.ensures) (c.entries_of_blocks.ensures.tensor c.get-b.result.now c.known-2.ensures)
        (twist_at true c.args.summed.now c.args.twist.now c.deref.result.now _ _ c.get-a.result.now c.args.first c.get-a.ensures (ap (λ (p : PartValue). p.member) c.first.view_is)
        (c.deref.ensures.value ∙ ap (λ (p : PartValue). p.labels) c.first.view_is) c.in_ok-one.ensures)
        (same_at _ c.get-b.result.now _ c.args.second c.get-b.ensures (ap (λ (p : PartValue). p.member) c.second.view_is) c.in_ok-two.ensures)
        (c.deref-4.ensures.value ∙ c.in_ok-shared.ensures
        ∙ ap₂ (λ (ks ls : List ℤ). shared_labels ks ls c.args.summed.now) (c.deref-2.ensures.value ∙ ap (λ (p : PartValue). p.labels) c.first.view_is) (c.deref-3.ensures.value ∙ ap (λ (p : PartValue). p.labels) c.second.view_is))).can,
    (c.requires.some_workers, c.requires.few_workers),
  ),
)

pub returns-in-Ok-clause-value : goal.returns-in-Ok-clause-value
returns-in-Ok-clause-value g c = λ net w.
    pair_made net c.args.done c.args.first c.args.second c.args.between_odd c.args.summed.now c.args.twist.now w c.get-a.result.now c.get-b.result.now c.deref-4.result.now
    (pair_at c.pair_step_law.ensures net c.args.done c.args.first c.args.second c.args.between_odd c.args.summed.now c.args.twist.now w c.get-a.result.now c.get-b.result.now c.deref-4.result.now
    (c.entries_of_blocks.ensures.tensor c.get-a.result.now c.known.ensures) (c.entries_of_blocks.ensures.tensor c.get-b.result.now c.known-2.ensures)
    (twist_at true c.args.summed.now c.args.twist.now c.deref.result.now _ _ c.get-a.result.now c.args.first c.get-a.ensures (ap (λ (p : PartValue). p.member) c.first.view_is)
    (c.deref.ensures.value ∙ ap (λ (p : PartValue). p.labels) c.first.view_is) c.in_ok-one.ensures)
    (same_at _ c.get-b.result.now _ c.args.second c.get-b.ensures (ap (λ (p : PartValue). p.member) c.second.view_is) c.in_ok-two.ensures)
    (c.deref-4.ensures.value ∙ c.in_ok-shared.ensures
    ∙ ap₂ (λ (ks ls : List ℤ). shared_labels ks ls c.args.summed.now) (c.deref-2.ensures.value ∙ ap (λ (p : PartValue). p.labels) c.first.view_is) (c.deref-3.ensures.value ∙ ap (λ (p : PartValue). p.labels) c.second.view_is)))
    c.in-Ok.t c.in_ok-made-in-Ok.field-0 c.first.inside.number c.deref-in-Ok.result.now c.deref-in-Ok-2.result.now c.in_ok-made-in-Ok.ensures (ap (λ (p : PartValue). p.number) c.first.view_is)
    (c.deref-in-Ok.ensures.value ∙ ap (λ (p : PartValue). p.labels) c.first.view_is) (c.deref-in-Ok-2.ensures.value ∙ ap (λ (p : PartValue). p.labels) c.second.view_is)
    (c.entries_of_blocks.ensures.tensor c.in-Ok.t c.known-in-Ok.ensures) c.in-Ok.ensures.value

pub returns-in-Ok-clause-clear : goal.returns-in-Ok-clause-clear
returns-in-Ok-clause-clear g c = λ net w. sym (pair_at c.pair_step_law.ensures net c.args.done c.args.first c.args.second c.args.between_odd c.args.summed.now c.args.twist.now w c.get-a.result.now c.get-b.result.now c.deref-4.result.now
    (c.entries_of_blocks.ensures.tensor c.get-a.result.now c.known.ensures) (c.entries_of_blocks.ensures.tensor c.get-b.result.now c.known-2.ensures)
    (twist_at true c.args.summed.now c.args.twist.now c.deref.result.now _ _ c.get-a.result.now c.args.first c.get-a.ensures (ap (λ (p : PartValue). p.member) c.first.view_is)
    (c.deref.ensures.value ∙ ap (λ (p : PartValue). p.labels) c.first.view_is) c.in_ok-one.ensures)
    (same_at _ c.get-b.result.now _ c.args.second c.get-b.ensures (ap (λ (p : PartValue). p.member) c.second.view_is) c.in_ok-two.ensures)
    (c.deref-4.ensures.value ∙ c.in_ok-shared.ensures
    ∙ ap₂ (λ (ks ls : List ℤ). shared_labels ks ls c.args.summed.now) (c.deref-2.ensures.value ∙ ap (λ (p : PartValue). p.labels) c.first.view_is) (c.deref-3.ensures.value ∙ ap (λ (p : PartValue). p.labels) c.second.view_is))).place ∙ c.in-Ok.ensures.clear

pub returns-in-Ok-clause-steps : goal.returns-in-Ok-clause-steps
returns-in-Ok-clause-steps g c = λ net w x y.
    pair_cost net c.args.done c.args.first c.args.second c.args.between_odd c.args.summed.now c.args.twist.now w c.get-a.result.now c.get-b.result.now c.deref-4.result.now
    (pair_at c.pair_step_law.ensures net c.args.done c.args.first c.args.second c.args.between_odd c.args.summed.now c.args.twist.now w c.get-a.result.now c.get-b.result.now c.deref-4.result.now
    (c.entries_of_blocks.ensures.tensor c.get-a.result.now c.known.ensures) (c.entries_of_blocks.ensures.tensor c.get-b.result.now c.known-2.ensures)
    (twist_at true c.args.summed.now c.args.twist.now c.deref.result.now _ _ c.get-a.result.now c.args.first c.get-a.ensures (ap (λ (p : PartValue). p.member) c.first.view_is)
    (c.deref.ensures.value ∙ ap (λ (p : PartValue). p.labels) c.first.view_is) c.in_ok-one.ensures)
    (same_at _ c.get-b.result.now _ c.args.second c.get-b.ensures (ap (λ (p : PartValue). p.member) c.second.view_is) c.in_ok-two.ensures)
    (c.deref-4.ensures.value ∙ c.in_ok-shared.ensures
    ∙ ap₂ (λ (ks ls : List ℤ). shared_labels ks ls c.args.summed.now) (c.deref-2.ensures.value ∙ ap (λ (p : PartValue). p.labels) c.first.view_is) (c.deref-3.ensures.value ∙ ap (λ (p : PartValue). p.labels) c.second.view_is))) x y _ _ c.in-Ok.ensures.steps

pub returns-in_err-made-in-Ok-clause-steps : goal.returns-in_err-made-in-Ok-clause-steps
returns-in_err-made-in-Ok-clause-steps g c = λ net w x y.
    pair_cost net c.args.done c.args.first c.args.second c.args.between_odd c.args.summed.now c.args.twist.now w c.get-a.result.now c.get-b.result.now c.deref-4.result.now
    (pair_at c.pair_step_law.ensures net c.args.done c.args.first c.args.second c.args.between_odd c.args.summed.now c.args.twist.now w c.get-a.result.now c.get-b.result.now c.deref-4.result.now
    (c.entries_of_blocks.ensures.tensor c.get-a.result.now c.known.ensures) (c.entries_of_blocks.ensures.tensor c.get-b.result.now c.known-2.ensures)
    (twist_at true c.args.summed.now c.args.twist.now c.deref.result.now _ _ c.get-a.result.now c.args.first c.get-a.ensures (ap (λ (p : PartValue). p.member) c.first.view_is)
    (c.deref.ensures.value ∙ ap (λ (p : PartValue). p.labels) c.first.view_is) c.in_ok-one.ensures)
    (same_at _ c.get-b.result.now _ c.args.second c.get-b.ensures (ap (λ (p : PartValue). p.member) c.second.view_is) c.in_ok-two.ensures)
    (c.deref-4.ensures.value ∙ c.in_ok-shared.ensures
    ∙ ap₂ (λ (ks ls : List ℤ). shared_labels ks ls c.args.summed.now) (c.deref-2.ensures.value ∙ ap (λ (p : PartValue). p.labels) c.first.view_is) (c.deref-3.ensures.value ∙ ap (λ (p : PartValue). p.labels) c.second.view_is))) x y _ _ c.in-Ok.ensures.steps

pub returns-clause-steps : goal.returns-clause-steps
returns-clause-steps g c = λ net w x y.
    pair_cost net c.args.done c.args.first c.args.second c.args.between_odd c.args.summed.now c.args.twist.now w c.get-a.result.now c.get-b.result.now c.deref-4.result.now
    (pair_at c.pair_step_law.ensures net c.args.done c.args.first c.args.second c.args.between_odd c.args.summed.now c.args.twist.now w c.get-a.result.now c.get-b.result.now c.deref-4.result.now
    (c.entries_of_blocks.ensures.tensor c.get-a.result.now c.known.ensures) (c.entries_of_blocks.ensures.tensor c.get-b.result.now c.known-2.ensures)
    (twist_at true c.args.summed.now c.args.twist.now c.deref.result.now _ _ c.get-a.result.now c.args.first c.get-a.ensures (ap (λ (p : PartValue). p.member) c.first.view_is)
    (c.deref.ensures.value ∙ ap (λ (p : PartValue). p.labels) c.first.view_is) c.in_ok-one.ensures)
    (same_at _ c.get-b.result.now _ c.args.second c.get-b.ensures (ap (λ (p : PartValue). p.member) c.second.view_is) c.in_ok-two.ensures)
    (c.deref-4.ensures.value ∙ c.in_ok-shared.ensures
    ∙ ap₂ (λ (ks ls : List ℤ). shared_labels ks ls c.args.summed.now) (c.deref-2.ensures.value ∙ ap (λ (p : PartValue). p.labels) c.first.view_is) (c.deref-3.ensures.value ∙ ap (λ (p : PartValue). p.labels) c.second.view_is))) x y _ _ c.in-Err.ensures.steps

pub returns-clause-err : goal.returns-clause-err
returns-clause-err g c = λ net w. c.fault_of.ensures net (subst (λ o. IsStepFault o c.in-Err.fault) (pair_at c.pair_step_law.ensures net c.args.done c.args.first c.args.second c.args.between_odd c.args.summed.now c.args.twist.now w c.get-a.result.now c.get-b.result.now c.deref-4.result.now
    (c.entries_of_blocks.ensures.tensor c.get-a.result.now c.known.ensures) (c.entries_of_blocks.ensures.tensor c.get-b.result.now c.known-2.ensures)
    (twist_at true c.args.summed.now c.args.twist.now c.deref.result.now _ _ c.get-a.result.now c.args.first c.get-a.ensures (ap (λ (p : PartValue). p.member) c.first.view_is)
    (c.deref.ensures.value ∙ ap (λ (p : PartValue). p.labels) c.first.view_is) c.in_ok-one.ensures)
    (same_at _ c.get-b.result.now _ c.args.second c.get-b.ensures (ap (λ (p : PartValue). p.member) c.second.view_is) c.in_ok-two.ensures)
    (c.deref-4.ensures.value ∙ c.in_ok-shared.ensures
    ∙ ap₂ (λ (ks ls : List ℤ). shared_labels ks ls c.args.summed.now) (c.deref-2.ensures.value ∙ ap (λ (p : PartValue). p.labels) c.first.view_is) (c.deref-3.ensures.value ∙ ap (λ (p : PartValue). p.labels) c.second.view_is))).place c.in-Err.ensures.err)
