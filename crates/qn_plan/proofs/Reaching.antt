-- One step more of a plan.
use Rattle.std.proofs.Common.{◌≡◌, ◌≤◌, ◌<◌, ℕ, suc, ◌+◌, ℤ, Bool, true, false, not, if◌then◌else◌, Some, None, List, [], ◌∷◌, ◌++◌, refl, sym, ◌∙◌, ap, ap₂, subst, length, filter, append_assoc, int_eq, arith, ◌^◌, ◌||◌}
use Rattle.std.proofs.lemmas.Bool.{false≢true}
use Rattle.std.proofs.lemmas.List.{length-map, length-append}
use Rattle.std.proofs.lemmas.List.Filters.{length-filter_both}
use Rattle.qn_sign.specs.Sign.{is_in}
use Rattle.qn_charge.specs.declared.factor.Factor.{Factor}
use Rattle.qn_index.specs.Legs.{SectorValue}
use Rattle.qn_value.specs.Networks.{Bond, Parities, labels, odd_flux, IsNetwork}
use Rattle.qn_match.specs.Shares.{LegsLeftAreOpen}
use Rattle.qn_net.specs.Groups.{TensorGroup, nodes, joined, closed, flux_of}
use Rattle.qn_net.specs.Steps.{Step as GroupStep, State, after, carry, IsStepAt, fuses}
use Rattle.qn_net.specs.Steps.Step.{pair, trace}
use Rattle.qn_net.specs.Plans.{plan}
use Rattle.qn_net.specs.Carried.{AllSound}
use Rattle.qn_net.specs.NetworkValues.{NetworkValue, parities, sectors, opens, begin, steps, IsWellFormed}
use Rattle.qn_net.proofs.PartLemmas.{map-append}
use Rattle.qn_net.proofs.PassingLemmas.{local_pair}
use Rattle.qn_plan.specs.Shapes.{ShapeValue, WalkValue, shape_of, walk_of, shape_at, joined_shape, closed_shape, shared_places}
use Rattle.qn_plan.specs.Planned.{StepValue, planned_step, is_too_wide, is_wide_step, first_wide_from, first_wide, cost_of_step}
use Rattle.qn_plan.specs.Conditions.{CanJoin, CanClose, CanCost}
use Rattle.qn_plan.specs.ShapeSteps.{joined_step, closed_step, joined_shapes, closed_shapes}
use Rattle.qn_plan.specs.Reached.{AreFitting, member_count, state_after, IsReached}
use Rattle.qn_plan.specs.Taking.{IsPairNext, IsTraceNext}
use Rattle.qn_plan.proofs.Keeping.{joined_is, closed_is}
use Rattle.qn_plan.proofs.StepsFit.{fits_last, pair_ready, pair_fits, pair_members, trace_ready, trace_fits, trace_members}
use Rattle.qn_plan.proofs.Finding.{shapes, shape_here, shape_there, joined_at, closed_at}
use Rattle.std.proofs.lemmas.List.Elements.{All-append}
use Rattle.qn_value.specs.Blocks.{legs_on}
use Rattle.qn_value.proofs.BlockRows.{all-nil, all-cons}
use Rattle.qn_match.specs.Cost.{cost_of}
use Rattle.qn_match.proofs.Counted.{cost_small}

-- the state after one step more
carry_one : (par : Parities) (ts : List GroupStep) (t : GroupStep) (s : State) → carry par (ts ++ t ∷ []) s ≡ after par t
carry_one par [] t s = refl
carry_one par (u ∷ ts) t s = carry_one par ts t (after par u)

some_absurd : (n : ℕ) → Some n ≡ None → ⊥
some_absurd n e = cc e

-- the first wide step
module _ (net : NetworkValue) where
  wide_after : (n : ℕ) (ts : List GroupStep) (t : GroupStep) (us : List GroupStep) → first_wide_from net n ts ≡ None → is_wide_step net t ≡ true → first_wide_from net n (ts ++ (t ∷ us)) ≡ Some (length ts + n)
  wide_after n [] t us h e = ap (λ b. if b then Some n else first_wide_from net (suc n) us) e ∙ ap (λ m. Some m) (omega arith)
  wide_after n (u ∷ ts) t us h e = go (is_wide_step net u) h (wide_after (suc n) ts t us)
    where
      shift : length ts + suc n ≡ suc (length ts) + n
      shift = omega arith

      go : (b : Bool) → (if b then Some n else first_wide_from net (suc n) ts) ≡ None →
          (first_wide_from net (suc n) ts ≡ None → is_wide_step net t ≡ true → first_wide_from net (suc n) (ts ++ (t ∷ us)) ≡ Some (length ts + suc n)) →
          (if b then Some n else first_wide_from net (suc n) (ts ++ (t ∷ us))) ≡ Some (suc (length ts) + n)
      go true k ih = absurd (some_absurd n k)
      go false k ih = ih k e ∙ ap (λ m. Some m) shift

  narrow_after : (n : ℕ) (ts : List GroupStep) (t : GroupStep) → first_wide_from net n ts ≡ None → is_wide_step net t ≡ false → first_wide_from net n (ts ++ t ∷ []) ≡ None
  narrow_after n [] t h e = ap (λ b. if b then Some n else None) e
  narrow_after n (u ∷ ts) t h e = go (is_wide_step net u) h (narrow_after (suc n) ts t)
    where
      go : (b : Bool) → (if b then Some n else first_wide_from net (suc n) ts) ≡ None →
          (first_wide_from net (suc n) ts ≡ None → is_wide_step net t ≡ false → first_wide_from net (suc n) (ts ++ t ∷ []) ≡ None) →
          (if b then Some n else first_wide_from net (suc n) (ts ++ t ∷ [])) ≡ None
      go true k ih = absurd (some_absurd n k)
      go false k ih = ih k e

-- lengths of chosen labels
pub filter_parts : (q : ℤ → Bool) (ls : List ℤ) → length (filter q ls) + length (filter (λ l. not (q l)) ls) ≡ length ls
filter_parts q ls = length-filter_both q (λ l. not (q l)) (λ l. refl) ls

pub some_in : (l : ℤ) (ls : List ℤ) → is_in int_eq l ls ≡ true → 0 < length ls
some_in l [] h = absurd (false≢true h)
some_in l (k ∷ ls) h = omega arith

module _ (law : LegsLeftAreOpen) (net : NetworkValue) (wf : IsWellFormed net) where
  abbrev fs : List Factor
  fs = net.group

  abbrev sec : ℤ → List SectorValue
  sec = sectors net

  abbrev par : Parities
  par = parities net

  -- one step more
  module _ (rest more : List ℤ) (list : List StepValue) (w : WalkValue) (r : IsReached net rest list w) (t : GroupStep) where
    abbrev s : State
    s = state_after net r.done

    module _ (next : plan par rest s ≡ t ∷ plan par more (after par t)) where
      sound : AllSound par (opens net) (t ∷ plan par more (after par t)) s
      sound = subst (λ ts. AllSound par (opens net) ts s) next r.sound

      all_steps : steps net ≡ r.done ++ (t ∷ plan par more (after par t))
      all_steps = r.steps ∙ ap (λ ts. r.done ++ ts) next

      list_length : length list ≡ length r.done
      list_length = ap (λ (ls : List StepValue). length ls) r.planned ∙ length-map r.done (planned_step net)

      wide_is : is_wide_step net t ≡ true → first_wide net ≡ Some (length list + 1)
      wide_is e =
          ap (first_wide_from net 1) all_steps ∙ wide_after net 1 r.done t (plan par more (after par t)) r.narrow e
          ∙ ap (λ n. Some (n + 1)) (sym list_length)

      advance : is_wide_step net t ≡ false → (v : WalkValue) → v ≡ walk_of fs sec (after par t) → AreFitting fs sec (after par t).groups → member_count (after par t).groups ≤ 256 →
          length list + 1 + (length v.left + length v.shapes) ≤ 8448 → cost_of_step net t ≤ 2 ^ 44 → IsReached net more (list ++ planned_step net t ∷ []) v
      advance e v walk fitting members few cheap =
          let same : after par t ≡ state_after net (r.done ++ t ∷ []) = sym (carry_one par r.done t (begin net)) in
          record {
            done = r.done ++ t ∷ [];
            planned = ap (λ ls. ls ++ planned_step net t ∷ []) r.planned ∙ sym (map-append (planned_step net) r.done (t ∷ []));
            narrow = narrow_after net 1 r.done t r.narrow e;
            steps = all_steps ∙ sym (append_assoc r.done (t ∷ []) (plan par more (after par t))) ∙ ap (λ u. (r.done ++ t ∷ []) ++ plan par more u) same;
            sound = subst (λ u. AllSound par (opens net) (plan par more u) u) same sound.2;
            walk = walk ∙ ap (walk_of fs sec) same;
            fitting = subst (λ (u : State). AreFitting fs sec u.groups) same fitting;
            members = subst (λ (u : State). member_count u.groups ≤ 256) same members;
            cheap = All-append (λ (k : StepValue). k.cost ≤ 2 ^ 44) list (planned_step net t ∷ []) r.cheap (all-cons (λ (k : StepValue). k.cost ≤ 2 ^ 44) (planned_step net t) [] cheap (all-nil (λ (k : StepValue). k.cost ≤ 2 ^ 44)));
            few = long (length-append list (planned_step net t ∷ []));
          }
        where
          long : length (list ++ planned_step net t ∷ []) ≡ length list + 1 → length (list ++ planned_step net t ∷ []) + (length v.left + length v.shapes) ≤ 8448
          long k = omega (arith, few, k)

  -- a pair step
  module _ (rest more : List ℤ) (list : List StepValue) (w : WalkValue) (r : IsReached net rest list w)
      (before : List TensorGroup) (g : TensorGroup) (between : List TensorGroup) (h : TensorGroup) (behind : List TensorGroup) (bonds left : List Bond)
      (next : plan par rest (state_after net r.done) ≡ pair before g between h behind bonds left ∷ plan par more (after par (pair before g between h behind bonds left))) where
    abbrev t : GroupStep
    t = pair before g between h behind bonds left

    abbrev made : TensorGroup
    made = joined par (odd_flux (nodes between)) g h bonds

    at : IsStepAt (state_after net r.done) t
    at = (sound rest more list w r t next).1

    groups_are : (state_after net r.done).groups ≡ before ++ (g ∷ (between ++ (h ∷ behind)))
    groups_are = at.0

    -- what the step costs
    cheap_pair : CanCost fs (shape_of fs sec g) (shape_of fs sec h) (labels bonds) → cost_of_step net t ≤ 2 ^ 44
    cheap_pair can = by (fuses g bonds || fuses h bonds)
      where
        by : (b : Bool) → (if b then 0 else cost_of fs (legs_on sec g.node.ends) (flux_of fs g) (legs_on sec h.node.ends) (flux_of fs h) (shared_places g.node.ends h.node.ends (labels bonds))) ≤ 2 ^ 44
        by true = omega arith
        by false = cost_small fs (legs_on sec g.node.ends) (flux_of fs g) (legs_on sec h.node.ends) (flux_of fs h) (shared_places g.node.ends h.node.ends (labels bonds)) (fits_last fs wf.group sec par (state_after net r.done) before g between h behind bonds left at r.fitting r.members).0.sound can.first can.second

    ready : CanJoin fs (shape_of fs sec g) (shape_of fs sec h) (labels bonds)
    ready = pair_ready fs wf.group sec par (state_after net r.done) before g between h behind bonds left at r.fitting r.members law (opens net) (sound rest more list w r t next).0

    fits_after : is_wide_step net t ≡ false → AreFitting fs sec (before ++ (made ∷ (between ++ behind)))
    fits_after e = pair_fits fs wf.group sec par (state_after net r.done) before g between h behind bonds left at r.fitting r.members e

    counts_after : member_count (before ++ (made ∷ (between ++ behind))) ≤ 256
    counts_after = pair_members fs wf.group sec par (state_after net r.done) before g between h behind bonds left at r.fitting r.members

    shapes_after : shapes fs sec (before ++ (made ∷ (between ++ behind))) ≡ joined_shapes fs (shapes fs sec (before ++ (g ∷ (between ++ (h ∷ behind))))) (length before) (length before + suc (length between)) (labels bonds)
    shapes_after =
        map-append (shape_of fs sec) before (made ∷ (between ++ behind))
        ∙ ap (λ (x : ShapeValue). shapes fs sec before ++ (x ∷ shapes fs sec (between ++ behind))) (sym (joined_is fs wf.group sec par (odd_flux (nodes between)) g h bonds))
        ∙ sym (joined_at fs sec before g between h behind (labels bonds))

    shapes_here : w.shapes ≡ shapes fs sec (before ++ (g ∷ (between ++ (h ∷ behind))))
    shapes_here = ap (λ (v : WalkValue). v.shapes) r.walk ∙ ap (shapes fs sec) groups_are

    counts_shapes : length w.shapes ≡ suc (length (before ++ (made ∷ (between ++ behind))))
    counts_shapes =
        let a = length-map (before ++ (g ∷ (between ++ (h ∷ behind)))) (shape_of fs sec) in
        let b = length-append before (g ∷ (between ++ (h ∷ behind))) in
        let c = length-append between (h ∷ behind) in
        let d = length-append before (made ∷ (between ++ behind)) in
        let e = length-append between behind in
        ap (λ (ss : List ShapeValue). length ss) shapes_here ∙ omega (arith, a, b, c, d, e)

    pub pair_next : (i j : ℕ) (summed rest_left : List ℤ) → length before ≡ i → length before + suc (length between) ≡ j → labels bonds ≡ summed → labels left ≡ rest_left → length rest_left ≤ length w.left →
        IsPairNext net more list w i j summed rest_left
    pair_next i j summed rest_left ei ej es el few =
        subst (λ ks. IsPairNext net more list w i j summed ks) el
        (subst (λ ks. IsPairNext net more list w i j ks (labels left)) es
        (subst (λ n. IsPairNext net more list w i n (labels bonds) (labels left)) ej
        (subst (λ n. IsPairNext net more list w n (length before + suc (length between)) (labels bonds) (labels left)) ei base)))
      where
        first_is : shape_at w.shapes (length before) ≡ shape_of fs sec g
        first_is = ap (λ (ss : List ShapeValue). shape_at ss (length before)) shapes_here ∙ shape_here fs sec before g (between ++ (h ∷ behind))

        second_is : shape_at w.shapes (length before + suc (length between)) ≡ shape_of fs sec h
        second_is = ap (λ (ss : List ShapeValue). shape_at ss (length before + suc (length between))) shapes_here ∙ shape_there fs sec before g between h behind

        wide_same : is_too_wide fs (joined_shape fs (shape_at w.shapes (length before)) (shape_at w.shapes (length before + suc (length between))) (labels bonds)).legs
            (joined_shape fs (shape_at w.shapes (length before)) (shape_at w.shapes (length before + suc (length between))) (labels bonds)).flux ≡ is_wide_step net t
        wide_same =
            ap₂ (λ (x y : ShapeValue). is_too_wide fs (joined_shape fs x y (labels bonds)).legs (joined_shape fs x y (labels bonds)).flux) first_is second_is
            ∙ ap (λ (x : ShapeValue). is_too_wide fs x.legs x.flux) (joined_is fs wf.group sec par (odd_flux (nodes between)) g h bonds)

        few_left : length (labels left) ≤ length w.left
        few_left = subst (λ (ks : List ℤ). length ks ≤ length w.left) (sym el) few

        walk_is : record { shapes = joined_shapes fs w.shapes (length before) (length before + suc (length between)) (labels bonds); left = labels left } ≡ walk_of fs sec (after par t)
        walk_is =
            ap (λ (ss : List ShapeValue). let v : WalkValue = record { shapes = joined_shapes fs ss (length before) (length before + suc (length between)) (labels bonds); left = labels left } in v) shapes_here
            ∙ ap (λ (ss : List ShapeValue). let v : WalkValue = record { shapes = ss; left = labels left } in v) (sym shapes_after)

        step_is : planned_step net t ≡ joined_step fs (shape_at w.shapes (length before)) (shape_at w.shapes (length before + suc (length between))) (labels bonds)
        step_is = ap₂ (λ (x y : ShapeValue). joined_step fs x y (labels bonds)) (sym first_is) (sym second_is)

        few_after : length list + 1 + (length (labels left) + length (joined_shapes fs w.shapes (length before) (length before + suc (length between)) (labels bonds))) ≤ 8448
        few_after =
            let a : length (joined_shapes fs w.shapes (length before) (length before + suc (length between)) (labels bonds)) ≡ length (before ++ (made ∷ (between ++ behind))) =
            ap (λ (v : WalkValue). length v.shapes) walk_is ∙ length-map (before ++ (made ∷ (between ++ behind))) (shape_of fs sec) in
            omega (arith, a, counts_shapes, r.few, few_left)

        joins : CanJoin fs (shape_at w.shapes (length before)) (shape_at w.shapes (length before + suc (length between))) (labels bonds)
        joins =
            subst (λ x. CanJoin fs x (shape_at w.shapes (length before + suc (length between))) (labels bonds)) (sym first_is)
            (subst (λ y. CanJoin fs (shape_of fs sec g) y (labels bonds)) (sym second_is) ready)

        costs : is_too_wide fs (joined_shape fs (shape_at w.shapes (length before)) (shape_at w.shapes (length before + suc (length between))) (labels bonds)).legs
            (joined_shape fs (shape_at w.shapes (length before)) (shape_at w.shapes (length before + suc (length between))) (labels bonds)).flux ≡ false →
            CanCost fs (shape_of fs sec g) (shape_of fs sec h) (labels bonds)
        costs e =
            subst (λ x. CanCost fs x (shape_of fs sec h) (labels bonds)) first_is
            (subst (λ y. CanCost fs (shape_at w.shapes (length before)) y (labels bonds)) second_is (joins.cost e))

        base : IsPairNext net more list w (length before) (length before + suc (length between)) (labels bonds) (labels left)
        base = record {
          ready = joins;
          wide = λ e. wide_is rest more list w r t next (sym wide_same ∙ e);
          done = λ e.
              subst (λ (k : StepValue). IsReached net more (list ++ k ∷ []) (record { shapes = joined_shapes fs w.shapes (length before) (length before + suc (length between)) (labels bonds); left = labels left })) step_is
              (advance rest more list w r t next (sym wide_same ∙ e) (record { shapes = joined_shapes fs w.shapes (length before) (length before + suc (length between)) (labels bonds); left = labels left })
              walk_is (fits_after (sym wide_same ∙ e)) counts_after few_after (cheap_pair (costs e)));
        }

  -- a trace step
  module _ (rest more : List ℤ) (list : List StepValue) (w : WalkValue) (r : IsReached net rest list w)
      (before : List TensorGroup) (g : TensorGroup) (behind : List TensorGroup) (bonds left : List Bond)
      (next : plan par rest (state_after net r.done) ≡ trace before g behind bonds left ∷ plan par more (after par (trace before g behind bonds left))) where
    abbrev u : GroupStep
    u = trace before g behind bonds left

    abbrev shut : TensorGroup
    shut = closed par g bonds

    here : IsStepAt (state_after net r.done) u
    here = (sound rest more list w r u next).1

    groups_were : (state_after net r.done).groups ≡ before ++ (g ∷ behind)
    groups_were = here.0

    fitting_after : is_wide_step net u ≡ false → AreFitting fs sec (before ++ (shut ∷ behind))
    fitting_after e = trace_fits fs wf.group sec par (state_after net r.done) before g behind bonds left here r.fitting r.members e

    members_after : member_count (before ++ (shut ∷ behind)) ≤ 256
    members_after = trace_members fs wf.group sec par (state_after net r.done) before g behind bonds left here r.fitting r.members

    shapes_were : w.shapes ≡ shapes fs sec (before ++ (g ∷ behind))
    shapes_were = ap (λ (v : WalkValue). v.shapes) r.walk ∙ ap (shapes fs sec) groups_were

    shapes_then : shapes fs sec (before ++ (shut ∷ behind)) ≡ closed_shapes (shapes fs sec (before ++ (g ∷ behind))) (length before) (labels bonds)
    shapes_then =
        map-append (shape_of fs sec) before (shut ∷ behind)
        ∙ ap (λ (x : ShapeValue). shapes fs sec before ++ (x ∷ shapes fs sec behind)) (sym (closed_is fs wf.group sec par g bonds))
        ∙ sym (closed_at fs sec before g behind (labels bonds))

    same_many : length w.shapes ≡ length (before ++ (shut ∷ behind))
    same_many =
        let a = length-map (before ++ (g ∷ behind)) (shape_of fs sec) in
        let b = length-append before (g ∷ behind) in
        let d = length-append before (shut ∷ behind) in
        ap (λ (ss : List ShapeValue). length ss) shapes_were ∙ omega (arith, a, b, d)

    pub trace_next : (i : ℕ) (summed rest_left : List ℤ) → length before ≡ i → labels bonds ≡ summed → labels left ≡ rest_left → length rest_left + 1 ≤ length w.left →
        IsTraceNext net more list w i summed rest_left
    trace_next i summed rest_left ei es el few =
        subst (λ ks. IsTraceNext net more list w i summed ks) el
        (subst (λ ks. IsTraceNext net more list w i ks (labels left)) es
        (subst (λ n. IsTraceNext net more list w n (labels bonds) (labels left)) ei base))
      where
        first_is : shape_at w.shapes (length before) ≡ shape_of fs sec g
        first_is = ap (λ (ss : List ShapeValue). shape_at ss (length before)) shapes_were ∙ shape_here fs sec before g behind

        wide_same : is_too_wide fs (closed_shape (shape_at w.shapes (length before)) (labels bonds)).legs (closed_shape (shape_at w.shapes (length before)) (labels bonds)).flux ≡ is_wide_step net u
        wide_same =
            ap (λ (x : ShapeValue). is_too_wide fs (closed_shape x (labels bonds)).legs (closed_shape x (labels bonds)).flux) first_is
            ∙ ap (λ (x : ShapeValue). is_too_wide fs x.legs x.flux) (closed_is fs wf.group sec par g bonds)

        few_left : length (labels left) + 1 ≤ length w.left
        few_left = subst (λ (ks : List ℤ). length ks + 1 ≤ length w.left) (sym el) few

        walk_is : record { shapes = closed_shapes w.shapes (length before) (labels bonds); left = labels left } ≡ walk_of fs sec (after par u)
        walk_is =
            ap (λ (ss : List ShapeValue). let v : WalkValue = record { shapes = closed_shapes ss (length before) (labels bonds); left = labels left } in v) shapes_were
            ∙ ap (λ (ss : List ShapeValue). let v : WalkValue = record { shapes = ss; left = labels left } in v) (sym shapes_then)

        step_is : planned_step net u ≡ closed_step (shape_at w.shapes (length before)) (labels bonds)
        step_is = ap (λ (x : ShapeValue). closed_step x (labels bonds)) (sym first_is)

        few_after : length list + 1 + (length (labels left) + length (closed_shapes w.shapes (length before) (labels bonds))) ≤ 8448
        few_after =
            let a : length (closed_shapes w.shapes (length before) (labels bonds)) ≡ length (before ++ (shut ∷ behind)) =
            ap (λ (v : WalkValue). length v.shapes) walk_is ∙ length-map (before ++ (shut ∷ behind)) (shape_of fs sec) in
            omega (arith, a, same_many, r.few, few_left)

        base : IsTraceNext net more list w (length before) (labels bonds) (labels left)
        base = record {
          ready = subst (λ x. CanClose fs x (labels bonds)) (sym first_is) (trace_ready fs wf.group sec par (state_after net r.done) before g behind bonds left here r.fitting r.members);
          wide = λ e. wide_is rest more list w r u next (sym wide_same ∙ e);
          done = λ e.
              subst (λ (k : StepValue). IsReached net more (list ++ k ∷ []) (record { shapes = closed_shapes w.shapes (length before) (labels bonds); left = labels left })) step_is
              (advance rest more list w r u next (sym wide_same ∙ e) (record { shapes = closed_shapes w.shapes (length before) (labels bonds); left = labels left })
              walk_is (fitting_after (sym wide_same ∙ e)) members_after few_after (omega arith));
        }
