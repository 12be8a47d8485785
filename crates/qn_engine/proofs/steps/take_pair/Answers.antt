use Rattle.std.proofs.Common.{◌<◌, ◌≤◌, ◌-◌, ◌+◌, List, ℕ, lit<, length, take, drop, sym, ◌∙◌, ap, ap₂, subst, refl, arith}
use Rattle.qn_plan.specs.Planned.{StepValue}
use Rattle.qn_engine.specs.Parts.{PartValue, place_of}
use Rattle.qn_engine.proofs.TakingSteps.{pair_within, pair_first, pair_taken, pair_room, pair_carried, next_fault, next_cost}
use Rattle.qn_engine.proofs.steps.take_pair.Goals as goal

pub is_odd_between-between_odd-requires : goal.is_odd_between-between_odd-requires
is_odd_between-between_odd-requires g c =
    let k = pair_within c.requires.step.0 c.args.done c.args.parts.now.items c.args.step.now c.args.twist.now c.requires.step.1 c.requires.kind c.place_of-i.result c.place_of-j.result (c.place_of-i.ensures.place ∙ ap₂ (λ (n : ℕ) (ps : List PartValue). place_of n ps) (ap (λ (s : StepValue). s.first) c.step.view_is) c.deref.ensures.value) (c.place_of-j.ensures.place ∙ ap₂ (λ (n : ℕ) (ps : List PartValue). place_of n ps) (ap (λ (s : StepValue). s.second) c.step.view_is) c.deref-2.ensures.value) in
    (lit< tt, (k.0, subst (λ ps. c.place_of-j.result < length ps) (sym c.deref-3.ensures.value) k.1))

pub remove-second-requires : goal.remove-second-requires
remove-second-requires g c =
    let k : c.place_of-j.result < length c.args.parts.now.items = (pair_within c.requires.step.0 c.args.done c.args.parts.now.items c.args.step.now c.args.twist.now c.requires.step.1 c.requires.kind c.place_of-i.result c.place_of-j.result (c.place_of-i.ensures.place ∙ ap₂ (λ (n : ℕ) (ps : List PartValue). place_of n ps) (ap (λ (s : StepValue). s.first) c.step.view_is) c.deref.ensures.value) (c.place_of-j.ensures.place ∙ ap₂ (λ (n : ℕ) (ps : List PartValue). place_of n ps) (ap (λ (s : StepValue). s.second) c.step.view_is) c.deref-2.ensures.value)).1 in
    omega (arith, k)

pub remove-first-requires : goal.remove-first-requires
remove-first-requires g c =
    let k : c.place_of-i.result < length c.remove-second.new.self.items = pair_first c.requires.step.0 c.args.done c.args.parts.now.items c.args.step.now c.args.twist.now c.requires.step.1 c.requires.kind c.place_of-i.result c.place_of-j.result (c.place_of-i.ensures.place ∙ ap₂ (λ (n : ℕ) (ps : List PartValue). place_of n ps) (ap (λ (s : StepValue). s.first) c.step.view_is) c.deref.ensures.value) (c.place_of-j.ensures.place ∙ ap₂ (λ (n : ℕ) (ps : List PartValue). place_of n ps) (ap (λ (s : StepValue). s.second) c.step.view_is) c.deref-2.ensures.value) c.remove-second.new.self.items _ c.remove-second.ensures.items refl in
    omega (arith, k)

pub join_step-requires-after_bounds : goal.join_step-requires-after_bounds
join_step-requires-after_bounds g c = λ κs h. (lit< tt, (c.requires.few, (c.requires.some_workers, (c.requires.few_workers, (c.requires.step.0, pair_taken c.requires.step.0 c.args.done c.args.parts.now.items c.args.step.now c.args.twist.now c.requires.step.1 c.requires.kind c.place_of-i.result c.place_of-j.result (c.place_of-i.ensures.place ∙ ap₂ (λ (n : ℕ) (ps : List PartValue). place_of n ps) (ap (λ (s : StepValue). s.first) c.step.view_is) c.deref.ensures.value) (c.place_of-j.ensures.place ∙ ap₂ (λ (n : ℕ) (ps : List PartValue). place_of n ps) (ap (λ (s : StepValue). s.second) c.step.view_is) c.deref-2.ensures.value) c.remove-second.new.self.items c.remove-first.new.self.items c.remove-second.ensures.items c.remove-first.ensures.items c.remove-first.result c.remove-second.result c.remove-second.ensures.value c.remove-first.ensures.value c.is_odd_between-between_odd.result _ c.is_odd_between-between_odd.ensures (ap (λ (ps : List PartValue). take (c.place_of-j.result - (c.place_of-i.result + 1)) (drop (c.place_of-i.result + 1) ps)) c.deref-3.ensures.value) c.deref-4.result.now (c.deref-4.ensures.value ∙ ap (λ (s : StepValue). s.labels) c.step.view_is))))))

pub insert-requires : goal.insert-requires
insert-requires g c =
    let k : c.place_of-i.result ≤ length c.remove-first.new.self.items = pair_room c.requires.step.0 c.args.done c.args.parts.now.items c.args.step.now c.args.twist.now c.requires.step.1 c.requires.kind c.place_of-i.result c.place_of-j.result (c.place_of-i.ensures.place ∙ ap₂ (λ (n : ℕ) (ps : List PartValue). place_of n ps) (ap (λ (s : StepValue). s.first) c.step.view_is) c.deref.ensures.value) (c.place_of-j.ensures.place ∙ ap₂ (λ (n : ℕ) (ps : List PartValue). place_of n ps) (ap (λ (s : StepValue). s.second) c.step.view_is) c.deref-2.ensures.value) c.remove-second.new.self.items c.remove-first.new.self.items c.remove-second.ensures.items c.remove-first.ensures.items in
    omega (arith, k)

pub returns-clause-carried : goal.returns-clause-carried
returns-clause-carried g c = λ net k.
    let w = pair_taken net c.args.done c.args.parts.now.items c.args.step.now c.args.twist.now k c.requires.kind c.place_of-i.result c.place_of-j.result (c.place_of-i.ensures.place ∙ ap₂ (λ (n : ℕ) (ps : List PartValue). place_of n ps) (ap (λ (s : StepValue). s.first) c.step.view_is) c.deref.ensures.value) (c.place_of-j.ensures.place ∙ ap₂ (λ (n : ℕ) (ps : List PartValue). place_of n ps) (ap (λ (s : StepValue). s.second) c.step.view_is) c.deref-2.ensures.value) c.remove-second.new.self.items c.remove-first.new.self.items c.remove-second.ensures.items c.remove-first.ensures.items c.remove-first.result c.remove-second.result c.remove-second.ensures.value c.remove-first.ensures.value c.is_odd_between-between_odd.result _ c.is_odd_between-between_odd.ensures (ap (λ (ps : List PartValue). take (c.place_of-j.result - (c.place_of-i.result + 1)) (drop (c.place_of-i.result + 1) ps)) c.deref-3.ensures.value) c.deref-4.result.now (c.deref-4.ensures.value ∙ ap (λ (s : StepValue). s.labels) c.step.view_is) in
    pair_carried net c.args.done c.args.parts.now.items c.args.step.now c.args.twist.now k c.requires.kind c.place_of-i.result c.place_of-j.result (c.place_of-i.ensures.place ∙ ap₂ (λ (n : ℕ) (ps : List PartValue). place_of n ps) (ap (λ (s : StepValue). s.first) c.step.view_is) c.deref.ensures.value) (c.place_of-j.ensures.place ∙ ap₂ (λ (n : ℕ) (ps : List PartValue). place_of n ps) (ap (λ (s : StepValue). s.second) c.step.view_is) c.deref-2.ensures.value) c.remove-second.new.self.items c.remove-first.new.self.items c.remove-second.ensures.items c.remove-first.ensures.items c.insert.new.self.items c.in-Ok.result c.in_ok-insert.ensures.items (c.in-Ok.ensures.value net w) (c.in-Ok.ensures.clear net w)

pub returns-in-Err-clause-err : goal.returns-in-Err-clause-err
returns-in-Err-clause-err g c = λ net k. next_fault net c.args.done c.args.parts.now.items c.args.step.now c.args.twist.now k c.in-Err.fault (c.in-Err.ensures.err net (pair_taken net c.args.done c.args.parts.now.items c.args.step.now c.args.twist.now k c.requires.kind c.place_of-i.result c.place_of-j.result (c.place_of-i.ensures.place ∙ ap₂ (λ (n : ℕ) (ps : List PartValue). place_of n ps) (ap (λ (s : StepValue). s.first) c.step.view_is) c.deref.ensures.value) (c.place_of-j.ensures.place ∙ ap₂ (λ (n : ℕ) (ps : List PartValue). place_of n ps) (ap (λ (s : StepValue). s.second) c.step.view_is) c.deref-2.ensures.value) c.remove-second.new.self.items c.remove-first.new.self.items c.remove-second.ensures.items c.remove-first.ensures.items c.remove-first.result c.remove-second.result c.remove-second.ensures.value c.remove-first.ensures.value c.is_odd_between-between_odd.result _ c.is_odd_between-between_odd.ensures (ap (λ (ps : List PartValue). take (c.place_of-j.result - (c.place_of-i.result + 1)) (drop (c.place_of-i.result + 1) ps)) c.deref-3.ensures.value) c.deref-4.result.now (c.deref-4.ensures.value ∙ ap (λ (s : StepValue). s.labels) c.step.view_is)))

pub returns-in-Err-clause-steps : goal.returns-in-Err-clause-steps
returns-in-Err-clause-steps g c =
    let cost = next_cost c.requires.step.0 c.args.done c.args.parts.now.items c.args.step.now c.args.twist.now c.requires.step.1 in
    let ticks = c.join_step.ensures.steps c.requires.step.0 (pair_taken c.requires.step.0 c.args.done c.args.parts.now.items c.args.step.now c.args.twist.now c.requires.step.1 c.requires.kind c.place_of-i.result c.place_of-j.result (c.place_of-i.ensures.place ∙ ap₂ (λ (n : ℕ) (ps : List PartValue). place_of n ps) (ap (λ (s : StepValue). s.first) c.step.view_is) c.deref.ensures.value) (c.place_of-j.ensures.place ∙ ap₂ (λ (n : ℕ) (ps : List PartValue). place_of n ps) (ap (λ (s : StepValue). s.second) c.step.view_is) c.deref-2.ensures.value) c.remove-second.new.self.items c.remove-first.new.self.items c.remove-second.ensures.items c.remove-first.ensures.items c.remove-first.result c.remove-second.result c.remove-second.ensures.value c.remove-first.ensures.value c.is_odd_between-between_odd.result _ c.is_odd_between-between_odd.ensures (ap (λ (ps : List PartValue). take (c.place_of-j.result - (c.place_of-i.result + 1)) (drop (c.place_of-i.result + 1) ps)) c.deref-3.ensures.value) c.deref-4.result.now (c.deref-4.ensures.value ∙ ap (λ (s : StepValue). s.labels) c.step.view_is)) in
    omega (arith, cost, ticks)

pub returns-clause-steps : goal.returns-clause-steps
returns-clause-steps g c =
    let cost = next_cost c.requires.step.0 c.args.done c.args.parts.now.items c.args.step.now c.args.twist.now c.requires.step.1 in
    let ticks = c.join_step.ensures.steps c.requires.step.0 (pair_taken c.requires.step.0 c.args.done c.args.parts.now.items c.args.step.now c.args.twist.now c.requires.step.1 c.requires.kind c.place_of-i.result c.place_of-j.result (c.place_of-i.ensures.place ∙ ap₂ (λ (n : ℕ) (ps : List PartValue). place_of n ps) (ap (λ (s : StepValue). s.first) c.step.view_is) c.deref.ensures.value) (c.place_of-j.ensures.place ∙ ap₂ (λ (n : ℕ) (ps : List PartValue). place_of n ps) (ap (λ (s : StepValue). s.second) c.step.view_is) c.deref-2.ensures.value) c.remove-second.new.self.items c.remove-first.new.self.items c.remove-second.ensures.items c.remove-first.ensures.items c.remove-first.result c.remove-second.result c.remove-second.ensures.value c.remove-first.ensures.value c.is_odd_between-between_odd.result _ c.is_odd_between-between_odd.ensures (ap (λ (ps : List PartValue). take (c.place_of-j.result - (c.place_of-i.result + 1)) (drop (c.place_of-i.result + 1) ps)) c.deref-3.ensures.value) c.deref-4.result.now (c.deref-4.ensures.value ∙ ap (λ (s : StepValue). s.labels) c.step.view_is)) in
    omega (arith, cost, ticks)
