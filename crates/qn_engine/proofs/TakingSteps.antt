-- A step taken, in the terms of a program.
use Rattle.std.proofs.Common.{◌≡◌, ◌≢◌, ◌≤◌, ◌<◌, ◌-◌, ℕ, ◌+◌, ℤ, Bool, List, [], ◌∷◌, ◌++◌, None, sym, ◌∙◌, ap, ap₂, subst, length, get_or, take, drop, arith}
use Rattle.std.proofs.lemmas.List.{length-append}
use Rattle.std.specs.List.{remove, insert}
use Rattle.qn_value.specs.Networks.{labels}
use Rattle.qn_net.specs.Steps.Kind.{trace_step}
use Rattle.qn_net.specs.Passing.{takes, sums_over}
use Rattle.qn_net.specs.NetworkValues.{NetworkValue, sectors}
use Rattle.qn_plan.specs.Planned.{StepValue, cost_of_step}
use Rattle.qn_engine.specs.Parts.{PartValue, ArePartsOf, place_of, is_odd_number}
use Rattle.qn_engine.specs.Carrying.{step_at, state_at, passing_at, AreClear, IsCarried, IsTraceAt, IsPairAt, IsMadeAt, IsNext, IsPassedAt}
use Rattle.qn_engine.specs.Evaluated.{IsEngineFault}
use Rattle.qn_engine.specs.declared.fault.EngineFault.{EngineFault}
use Rattle.qn_engine.proofs.Walking.{clear_next, fault_next}
use Rattle.qn_engine.proofs.Taking.{labels_written, trace_cut, PairCut, pair_cut}

-- the labels of the next step
next_labels : (net : NetworkValue) (n : ℕ) (parts : List PartValue) (step : StepValue) (twist : List ℤ) → IsNext net n parts step twist → step.labels ≡ labels (sums_over (step_at net n))
next_labels net n parts step twist k = ap (λ (s : StepValue). s.labels) k.step_is ∙ labels_written (step_at net n)

pub next_cost : (net : NetworkValue) (n : ℕ) (parts : List PartValue) (step : StepValue) (twist : List ℤ) → IsNext net n parts step twist → cost_of_step net (step_at net n) ≡ step.cost
next_cost net n parts step twist k = sym (ap (λ (s : StepValue). s.cost) k.step_is)

pub next_fault : (net : NetworkValue) (n : ℕ) (parts : List PartValue) (step : StepValue) (twist : List ℤ) → IsNext net n parts step twist → (e : EngineFault) → IsPassedAt net n e → IsEngineFault net e
next_fault net n parts step twist k = fault_next net n k.within k.carried.clear k.narrow k.place

module _ (net : NetworkValue) (n : ℕ) (parts : List PartValue) (step : StepValue) (twist : List ℤ) (k : IsNext net n parts step twist) where
  pub trace_within : step.kind ≡ trace_step → (i : ℕ) → i ≡ place_of step.first parts → i < length parts
  trace_within kind i e = subst (λ j. j < length parts) (sym e) (trace_cut net n parts step twist k kind).within

  -- the part that was removed
  pub trace_taken : step.kind ≡ trace_step → (i : ℕ) → i ≡ place_of step.first parts → (p : PartValue) → p ≡ get_or parts i p → (summed : List ℤ) → summed ≡ step.labels → IsTraceAt net n p summed twist
  trace_taken kind i e p ep summed es =
      let cut = trace_cut net n parts step twist k kind in
      let same : p ≡ cut.part = ep ∙ ap (λ j. get_or parts j p) e ∙ cut.part_is p in
      record {
        ready = k.ready n k.within;
        taken = subst (λ q. ArePartsOf net.group (sectors net) (q ∷ []) (takes (step_at net n))) (sym same) cut.taken;
        over = es ∙ next_labels net n parts step twist k;
        twists = k.twists;
      }

  pub trace_room : step.kind ≡ trace_step → (i : ℕ) → i ≡ place_of step.first parts → (left : List PartValue) → left ≡ remove parts i → i ≤ length left
  trace_room kind i e left el =
      let cut = trace_cut net n parts step twist k kind in
      let where_ : i ≡ length cut.first = e ∙ cut.place in
      let rest : left ≡ cut.first ++ cut.last = el ∙ ap (remove parts) e ∙ cut.removed in
      let long : length left ≡ length (cut.first ++ cut.last) = ap (λ (ps : List PartValue). length ps) rest in
      let sum = length-append cut.first cut.last in
      omega (arith, where_, long, sum)

  pub trace_carried : step.kind ≡ trace_step → (i : ℕ) → i ≡ place_of step.first parts → (left new : List PartValue) (r : PartValue) → left ≡ remove parts i → new ≡ insert left i r → IsMadeAt net n r → passing_at net n ≡ None →
      IsCarried net (n + 1) new
  trace_carried kind i e left new r el en made none =
      let cut = trace_cut net n parts step twist k kind in
      let list : new ≡ cut.first ++ (r ∷ cut.last) = en ∙ ap₂ (λ (ps : List PartValue) (j : ℕ). insert ps j r) (el ∙ ap (remove parts) e ∙ cut.removed) e ∙ cut.put r in
      record {
        parts_of = subst (λ ps. ArePartsOf net.group (sectors net) ps (state_at net (n + 1)).groups) (sym list) (cut.after_it r made);
        clear = clear_next net n k.within k.carried.clear none;
      }

  module _ (kind : step.kind ≢ trace_step) (i j : ℕ) (ei : i ≡ place_of step.first parts) (ej : j ≡ place_of step.second parts) where
    cut : PairCut net n parts i j
    cut = subst (λ a. PairCut net n parts a j) (sym ei) (subst (PairCut net n parts (place_of step.first parts)) (sym ej) (pair_cut net n parts step twist k kind))

    pub pair_within : (i < j) × (j < length parts)
    pair_within = (cut.ordered, cut.within)

    module _ (left rest : List PartValue) (el : left ≡ remove parts j) (er : rest ≡ remove left i) where
      left_is : left ≡ cut.first ++ (cut.one ∷ (cut.middle ++ cut.last))
      left_is = el ∙ cut.without_two

      rest_is : rest ≡ cut.first ++ (cut.middle ++ cut.last)
      rest_is = er ∙ ap (λ ps. remove ps i) left_is ∙ cut.without_one

      pub pair_first : i < length left
      pair_first = subst (λ ps. i < length ps) (sym left_is) cut.one_within

      pub pair_room : i ≤ length rest
      pair_room = subst (λ ps. i ≤ length ps) (sym rest_is) cut.put_within

      pub pair_taken : (p q : PartValue) → q ≡ get_or parts j q → p ≡ get_or left i p → (between : Bool) (ps : List PartValue) → between ≡ is_odd_number ps → ps ≡ take (j - (i + 1)) (drop (i + 1) parts) →
          (summed : List ℤ) → summed ≡ step.labels → IsPairAt net n p q between summed twist
      pair_taken p q eq ep between ps eb es summed et = record {
        ready = k.ready n k.within;
        taken =
            subst (λ x. ArePartsOf net.group (sectors net) (x ∷ q ∷ []) (takes (step_at net n))) (sym (ep ∙ ap (λ ls. get_or ls i p) left_is ∙ cut.one_is p))
            (subst (λ y. ArePartsOf net.group (sectors net) (cut.one ∷ y ∷ []) (takes (step_at net n))) (sym (eq ∙ cut.two_is q)) cut.taken);
        odd = eb ∙ ap is_odd_number (es ∙ cut.between) ∙ cut.odd;
        over = et ∙ next_labels net n parts step twist k;
        twists = k.twists;
      }

      pub pair_carried : (new : List PartValue) (r : PartValue) → new ≡ insert rest i r → IsMadeAt net n r → (AreClear net n → passing_at net n ≡ None) → IsCarried net (n + 1) new
      pair_carried new r en made none = record {
        parts_of = subst (λ ps. ArePartsOf net.group (sectors net) ps (state_at net (n + 1)).groups) (sym (en ∙ ap (λ ps. insert ps i r) rest_is ∙ cut.put r)) (cut.after_it r made);
        clear = clear_next net n k.within k.carried.clear (none k.carried.clear);
      }
