use Rattle.std.proofs.Common.{false, List, ℤ, lit<, sym, ◌∙◌, ap, subst}
use Rattle.qn_block.specs.Steps.{IsStepFault}
use Rattle.qn_net.specs.Members.{IsNarrow}
use Rattle.qn_net.specs.NetworkValues.{sectors}
use Rattle.qn_net.specs.Passing.{takes}
use Rattle.qn_engine.specs.Carrying.{step_at}
use Rattle.qn_engine.specs.Labels.{coupled_labels}
use Rattle.qn_engine.specs.Parts.{PartValue}
use Rattle.qn_engine.proofs.Making.{twist_at, labels_at, trace_at, trace_narrow, trace_labels, trace_made}
use Rattle.qn_engine.proofs.steps.trace_step.Goals as goal

pub twisted-requires : goal.twisted-requires
twisted-requires g c =
    let net = c.requires.step.0 in
    let k = trace_narrow net.group (sectors net) c.args.part (takes (step_at net c.args.done)) c.requires.step.1.taken in (
      lit< tt,
      (
        lit< tt,
        (
          subst IsNarrow (sym (ap (λ (p : PartValue). p.member) c.part.view_is)) k.0,
          labels_at c.args.part _ _ (ap (λ (p : PartValue). p.member) c.part.view_is) (c.deref.ensures.value ∙ ap (λ (p : PartValue). p.labels) c.part.view_is) k.1,
        ),
      ),
    )

pub couple_places-requires : goal.couple_places-requires
couple_places-requires g c =
    trace_labels c.requires.step.0 c.args.done c.args.part c.args.summed.now c.args.twist.now c.deref-2.result.now c.requires.step.1 (c.deref-2.ensures.value ∙ ap (λ (p : PartValue). p.labels) c.part.view_is)

pub trace-requires : goal.trace-requires
trace-requires g c = (
  lit< tt,
  (trace_at c.trace_step_law.ensures c.requires.step.0 c.args.done c.args.part c.args.summed.now c.args.twist.now c.requires.step.1 c.get-a.result.now c.deref-3.result.now (c.entries_of_blocks.ensures.tensor c.get-a.result.now c.known.ensures)
      (twist_at false c.args.summed.now c.args.twist.now c.deref.result.now _ _ c.get-a.result.now c.args.part c.get-a.ensures (ap (λ (p : PartValue). p.member) c.part.view_is)
      (c.deref.ensures.value ∙ ap (λ (p : PartValue). p.labels) c.part.view_is) c.in_ok-tensor.ensures)
      (c.deref-3.ensures.value ∙ c.in_ok-couples.ensures ∙ ap (λ (ls : List ℤ). coupled_labels ls c.args.summed.now) (c.deref-2.ensures.value ∙ ap (λ (p : PartValue). p.labels) c.part.view_is))).coupling,
)

pub returns-in-Ok-clause-value : goal.returns-in-Ok-clause-value
returns-in-Ok-clause-value g c = λ net w.
    trace_made net c.args.done c.args.part c.args.summed.now c.args.twist.now w c.get-a.result.now c.deref-3.result.now
    (trace_at c.trace_step_law.ensures net c.args.done c.args.part c.args.summed.now c.args.twist.now w c.get-a.result.now c.deref-3.result.now (c.entries_of_blocks.ensures.tensor c.get-a.result.now c.known.ensures)
    (twist_at false c.args.summed.now c.args.twist.now c.deref.result.now _ _ c.get-a.result.now c.args.part c.get-a.ensures (ap (λ (p : PartValue). p.member) c.part.view_is)
    (c.deref.ensures.value ∙ ap (λ (p : PartValue). p.labels) c.part.view_is) c.in_ok-tensor.ensures)
    (c.deref-3.ensures.value ∙ c.in_ok-couples.ensures ∙ ap (λ (ls : List ℤ). coupled_labels ls c.args.summed.now) (c.deref-2.ensures.value ∙ ap (λ (p : PartValue). p.labels) c.part.view_is)))
    c.in-Ok.t c.in_ok-made-in-Ok.field-0 c.part.inside.number c.deref-in-Ok.result.now c.in_ok-made-in-Ok.ensures (ap (λ (p : PartValue). p.number) c.part.view_is)
    (c.deref-in-Ok.ensures.value ∙ ap (λ (p : PartValue). p.labels) c.part.view_is) c.known-in-Ok.ensures (c.entries_of_blocks.ensures.tensor c.in-Ok.t c.known-in-Ok.ensures) c.in-Ok.ensures.value

pub returns-in-Ok-clause-clear : goal.returns-in-Ok-clause-clear
returns-in-Ok-clause-clear g c = λ net w.
    sym (trace_at c.trace_step_law.ensures net c.args.done c.args.part c.args.summed.now c.args.twist.now w c.get-a.result.now c.deref-3.result.now (c.entries_of_blocks.ensures.tensor c.get-a.result.now c.known.ensures)
    (twist_at false c.args.summed.now c.args.twist.now c.deref.result.now _ _ c.get-a.result.now c.args.part c.get-a.ensures (ap (λ (p : PartValue). p.member) c.part.view_is)
    (c.deref.ensures.value ∙ ap (λ (p : PartValue). p.labels) c.part.view_is) c.in_ok-tensor.ensures)
    (c.deref-3.ensures.value ∙ c.in_ok-couples.ensures ∙ ap (λ (ls : List ℤ). coupled_labels ls c.args.summed.now) (c.deref-2.ensures.value ∙ ap (λ (p : PartValue). p.labels) c.part.view_is))).place
    ∙ c.in-Ok.ensures.clear

pub returns-clause-err : goal.returns-clause-err
returns-clause-err g c = λ net w.
    c.fault_of.ensures net (subst (λ o. IsStepFault o c.in-Err.fault)
    (trace_at c.trace_step_law.ensures net c.args.done c.args.part c.args.summed.now c.args.twist.now w c.get-a.result.now c.deref-3.result.now (c.entries_of_blocks.ensures.tensor c.get-a.result.now c.known.ensures)
    (twist_at false c.args.summed.now c.args.twist.now c.deref.result.now _ _ c.get-a.result.now c.args.part c.get-a.ensures (ap (λ (p : PartValue). p.member) c.part.view_is)
    (c.deref.ensures.value ∙ ap (λ (p : PartValue). p.labels) c.part.view_is) c.in_ok-tensor.ensures)
    (c.deref-3.ensures.value ∙ c.in_ok-couples.ensures ∙ ap (λ (ls : List ℤ). coupled_labels ls c.args.summed.now) (c.deref-2.ensures.value ∙ ap (λ (p : PartValue). p.labels) c.part.view_is))).place
    c.in-Err.ensures.err)
