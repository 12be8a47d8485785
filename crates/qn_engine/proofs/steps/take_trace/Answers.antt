use Rattle.std.proofs.Common.{◌<◌, ◌≤◌, List, ℕ, lit<, length, ◌∙◌, ap, ap₂, arith}
use Rattle.qn_plan.specs.Planned.{StepValue}
use Rattle.qn_engine.specs.Parts.{PartValue, place_of}
use Rattle.qn_engine.proofs.TakingSteps.{trace_within, trace_taken, trace_room, trace_carried, next_fault}
use Rattle.qn_engine.proofs.steps.take_trace.Goals as goal

pub remove-part-requires : goal.remove-part-requires
remove-part-requires g c =
    let k : c.place_of-place.result < length c.args.parts.now.items = trace_within c.requires.step.0 c.args.done c.args.parts.now.items c.args.step.now c.args.twist.now c.requires.step.1 c.requires.kind c.place_of-place.result (c.place_of-place.ensures.place ∙ ap₂ (λ (n : ℕ) (ps : List PartValue). place_of n ps) (ap (λ (s : StepValue). s.first) c.step.view_is) c.deref.ensures.value) in
    omega (arith, k)

pub trace_step-requires : goal.trace_step-requires
trace_step-requires g c = (
  lit< tt,
  (
    c.requires.few,
    (
      c.requires.step.0,
      trace_taken c.requires.step.0 c.args.done c.args.parts.now.items c.args.step.now c.args.twist.now c.requires.step.1 c.requires.kind c.place_of-place.result (c.place_of-place.ensures.place ∙ ap₂ (λ (n : ℕ) (ps : List PartValue). place_of n ps) (ap (λ (s : StepValue). s.first) c.step.view_is) c.deref.ensures.value) c.remove-part.result c.remove-part.ensures.value c.deref-2.result.now (c.deref-2.ensures.value ∙ ap (λ (s : StepValue). s.labels) c.step.view_is),
    ),
  ),
)

pub insert-requires : goal.insert-requires
insert-requires g c =
    let k : c.place_of-place.result ≤ length c.remove-part.new.self.items =
    trace_room c.requires.step.0 c.args.done c.args.parts.now.items c.args.step.now c.args.twist.now c.requires.step.1 c.requires.kind c.place_of-place.result (c.place_of-place.ensures.place ∙ ap₂ (λ (n : ℕ) (ps : List PartValue). place_of n ps) (ap (λ (s : StepValue). s.first) c.step.view_is) c.deref.ensures.value) c.remove-part.new.self.items c.remove-part.ensures.items in
    omega (arith, k)

pub returns-clause-carried : goal.returns-clause-carried
returns-clause-carried g c = λ net k.
    let w = trace_taken net c.args.done c.args.parts.now.items c.args.step.now c.args.twist.now k c.requires.kind c.place_of-place.result (c.place_of-place.ensures.place ∙ ap₂ (λ (n : ℕ) (ps : List PartValue). place_of n ps) (ap (λ (s : StepValue). s.first) c.step.view_is) c.deref.ensures.value) c.remove-part.result c.remove-part.ensures.value c.deref-2.result.now (c.deref-2.ensures.value ∙ ap (λ (s : StepValue). s.labels) c.step.view_is) in
    trace_carried net c.args.done c.args.parts.now.items c.args.step.now c.args.twist.now k c.requires.kind c.place_of-place.result (c.place_of-place.ensures.place ∙ ap₂ (λ (n : ℕ) (ps : List PartValue). place_of n ps) (ap (λ (s : StepValue). s.first) c.step.view_is) c.deref.ensures.value) c.remove-part.new.self.items c.insert.new.self.items c.in-Ok.result c.remove-part.ensures.items c.in_ok-insert.ensures.items
    (c.in-Ok.ensures.value net w) (c.in-Ok.ensures.clear net w)

pub returns-in-Err-clause-err : goal.returns-in-Err-clause-err
returns-in-Err-clause-err g c = λ net k.
    next_fault net c.args.done c.args.parts.now.items c.args.step.now c.args.twist.now k c.in-Err.fault
    (c.in-Err.ensures.err net (trace_taken net c.args.done c.args.parts.now.items c.args.step.now c.args.twist.now k c.requires.kind c.place_of-place.result (c.place_of-place.ensures.place ∙ ap₂ (λ (n : ℕ) (ps : List PartValue). place_of n ps) (ap (λ (s : StepValue). s.first) c.step.view_is) c.deref.ensures.value) c.remove-part.result c.remove-part.ensures.value c.deref-2.result.now (c.deref-2.ensures.value ∙ ap (λ (s : StepValue). s.labels) c.step.view_is)))
