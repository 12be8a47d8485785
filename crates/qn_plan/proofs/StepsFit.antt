-- Steps keep the groups of a network within the limits.
use Rattle.std.proofs.Common.{◌≡◌, ◌≤◌, ℕ, suc, ◌+◌, ℤ, Bool, true, false, if◌then◌else◌, Some, None, Option, List, [], ◌∷◌, ◌++◌, refl, sym, ◌∙◌, ap, subst, length, arith}
use Rattle.qn_charge.specs.declared.factor.Factor.{Factor}
use Rattle.qn_charge.specs.Charges.{IsGroup}
use Rattle.qn_index.specs.Legs.{SectorValue}
use Rattle.qn_value.specs.Networks.{End, Bond, Parities, labels, odd_flux, IsNetwork}
use Rattle.qn_value.specs.Blocks.{legs_on}
use Rattle.qn_match.specs.Shares.{LegsLeftAreOpen}
use Rattle.qn_net.specs.Groups.{TensorGroup, nodes, joined, closed, flux_of}
use Rattle.qn_net.specs.Steps.{Step as GroupStep, State, after, carry, IsStepAt}
use Rattle.qn_net.specs.Steps.Step.{pair, trace}
use Rattle.qn_net.specs.Carried.{IsSoundState, AllSound}
use Rattle.qn_net.specs.Members.{MemberLaw}
use Rattle.qn_net.specs.NetworkValues.{NetworkValue, parities, sectors, opens, begin, steps, NetworkValueLaw}
use Rattle.qn_net.specs.Operations.{FirstTensorsLaw}
use Rattle.qn_net.proofs.PassingLemmas.{local_pair}
use Rattle.qn_net.proofs.PlanTwist.{steps_sound}
use Rattle.qn_plan.specs.Shapes.{ShapeValue, shape_of, joined_shape}
use Rattle.qn_plan.specs.Planned.{is_too_wide, is_wide_step, first_wide_from, first_wide}
use Rattle.qn_plan.specs.Conditions.{CanJoin, CanCost, CanClose}
use Rattle.qn_plan.specs.Reached.{AreFitting, member_count, state_after}
use Rattle.qn_plan.specs.Limits.{IsNarrowNetwork, GroupsWithinLimits, PairsWithinLimits}
use Rattle.qn_plan.proofs.Keeping.{joined_is}
use Rattle.qn_plan.proofs.Fitting.{merged_length, count-append, can_join, can_close, fit_joined, fit_closed, fit_first, fit_second, fit-append}
use Rattle.qn_plan.proofs.Starting.{begun_fitting, begun_members}

module _ (fs : List Factor) (group : IsGroup fs) (sec : ℤ → List SectorValue) (par : Parities) (s : State) where
  -- a pair step
  module _ (before : List TensorGroup) (g : TensorGroup) (between : List TensorGroup) (h : TensorGroup) (behind : List TensorGroup) (bonds left : List Bond)
      (at : IsStepAt s (pair before g between h behind bonds left)) (fitting : AreFitting fs sec s.groups) (few : member_count s.groups ≤ 256) where
    abbrev made : TensorGroup
    made = joined par (odd_flux (nodes between)) g h bonds

    fits : AreFitting fs sec (before ++ (g ∷ (between ++ (h ∷ behind))))
    fits = subst (AreFitting fs sec) at.0 fitting

    pub fits_second : AreFitting fs sec (g ∷ (between ++ (h ∷ behind)))
    fits_second = fit_second fs group sec before (g ∷ (between ++ (h ∷ behind))) fits

    pub fits_last : AreFitting fs sec (h ∷ behind)
    fits_last = fit_second fs group sec between (h ∷ behind) fits_second.1

    counts : member_count before + (length g.members + (member_count between + (length h.members + member_count behind))) ≤ 256
    counts =
        let one = count-append before (g ∷ (between ++ (h ∷ behind))) in
        let two = count-append between (h ∷ behind) in
        let all : member_count (before ++ (g ∷ (between ++ (h ∷ behind)))) ≤ 256 = subst (λ gs. member_count gs ≤ 256) at.0 few in
        omega (arith, one, two, all)

    pub pair_ready : LegsLeftAreOpen → (os : List End) → IsSoundState par os s → CanJoin fs (shape_of fs sec g) (shape_of fs sec h) (labels bonds)
    pair_ready law os sound =
        can_join fs group sec g h fits_second.0 fits_last.0 (omega (arith, counts)) law bonds at.3 at.4
        (local_pair par os before g between h behind s.left bonds left (subst (λ gs. IsNetwork (nodes gs) s.left os) at.0 sound.network) at.1 at.2)

    pub pair_fits : is_too_wide fs (legs_on sec made.node.ends) (flux_of fs made) ≡ false → AreFitting fs sec (before ++ (made ∷ (between ++ behind)))
    pair_fits e =
        fit-append fs group sec before (made ∷ (between ++ behind)) (fit_first fs group sec before (g ∷ (between ++ (h ∷ behind))) fits) (
          fit_joined fs group sec g h fits_second.0 fits_last.0 (omega (arith, counts)) par (odd_flux (nodes between)) bonds e,
          fit-append fs group sec between behind (fit_first fs group sec between (h ∷ behind) fits_second.1) fits_last.1,
        )

    pub pair_members : member_count (before ++ (made ∷ (between ++ behind))) ≤ 256
    pair_members =
        let one = count-append before (made ∷ (between ++ behind)) in
        let two = count-append between behind in
        let three = merged_length g.members h.members in
        omega (arith, one, two, three, counts)

  -- a trace step
  module _ (before : List TensorGroup) (g : TensorGroup) (behind : List TensorGroup) (bonds left : List Bond)
      (at : IsStepAt s (trace before g behind bonds left)) (fitting : AreFitting fs sec s.groups) (few : member_count s.groups ≤ 256) where
    abbrev shut : TensorGroup
    shut = closed par g bonds

    fits_all : AreFitting fs sec (before ++ (g ∷ behind))
    fits_all = subst (AreFitting fs sec) at.0 fitting

    fits_here : AreFitting fs sec (g ∷ behind)
    fits_here = fit_second fs group sec before (g ∷ behind) fits_all

    members_here : member_count before + (length g.members + member_count behind) ≤ 256
    members_here =
        let one = count-append before (g ∷ behind) in
        let all : member_count (before ++ (g ∷ behind)) ≤ 256 = subst (λ gs. member_count gs ≤ 256) at.0 few in
        omega (arith, one, all)

    pub trace_ready : CanClose fs (shape_of fs sec g) (labels bonds)
    trace_ready = can_close fs group sec g fits_here.0 (omega (arith, members_here)) bonds

    pub trace_fits : is_too_wide fs (legs_on sec shut.node.ends) (flux_of fs shut) ≡ false → AreFitting fs sec (before ++ (shut ∷ behind))
    trace_fits e =
        fit-append fs group sec before (shut ∷ behind) (fit_first fs group sec before (g ∷ behind) fits_all)
        (fit_closed fs group sec g fits_here.0 (omega (arith, members_here)) par bonds e, fits_here.1)

    pub trace_members : member_count (before ++ (shut ∷ behind)) ≤ 256
    trace_members = let one = count-append before (shut ∷ behind) in omega (arith, one, members_here)

-- steps one after another
module _ (net : NetworkValue) (group : IsGroup net.group) where
  abbrev Within : State → Type 0
  Within s = AreFitting net.group (sectors net) s.groups × (member_count s.groups ≤ 256)

  step_within : (t : GroupStep) (s : State) → IsStepAt s t → Within s → is_wide_step net t ≡ false → Within (after (parities net) t)
  step_within (pair before g between h behind bonds left) s at k e = (
    pair_fits net.group group (sectors net) (parities net) s before g between h behind bonds left at k.0 k.1 e,
    pair_members net.group group (sectors net) (parities net) s before g between h behind bonds left at k.0 k.1,
  )
  step_within (trace before g behind bonds left) s at k e = (
    trace_fits net.group group (sectors net) (parities net) s before g behind bonds left at k.0 k.1 e,
    trace_members net.group group (sectors net) (parities net) s before g behind bonds left at k.0 k.1,
  )

  none_wide : (b : Bool) (n : ℕ) (o : Option ℕ) → (if b then Some n else o) ≡ None → (b ≡ false) × (o ≡ None)
  none_wide true n o e = absurd (cc e)
  none_wide false n o e = (refl, e)

  narrow_at : (n : ℕ) (ts : List GroupStep) (t : GroupStep) (us : List GroupStep) → first_wide_from net n (ts ++ (t ∷ us)) ≡ None → is_wide_step net t ≡ false
  narrow_at n [] t us e = (none_wide (is_wide_step net t) n (first_wide_from net (suc n) us) e).0
  narrow_at n (u ∷ ts) t us e = narrow_at (suc n) ts t us (none_wide (is_wide_step net u) n (first_wide_from net (suc n) (ts ++ (t ∷ us))) e).1

  steps_within : (n : ℕ) (ts us : List GroupStep) (s : State) → AllSound (parities net) (opens net) (ts ++ us) s → Within s → first_wide_from net n (ts ++ us) ≡ None → Within (carry (parities net) ts s)
  steps_within n [] us s sound k e = k
  steps_within n (t ∷ ts) us s sound k e =
      let w = none_wide (is_wide_step net t) n (first_wide_from net (suc n) (ts ++ us)) e in
      steps_within (suc n) ts us (after (parities net) t) sound.2 (step_within t s sound.1 k w.0) w.1

module _ (first : FirstTensorsLaw) (value : NetworkValueLaw) (member : MemberLaw) (net : NetworkValue) (w : IsNarrowNetwork net) (done rest : List GroupStep) (whole : steps net ≡ done ++ rest) where
  all_sound : AllSound (parities net) (opens net) (done ++ rest) (begin net)
  all_sound = subst (λ ts. AllSound (parities net) (opens net) ts (begin net)) whole (value net w.formed).0

  pub groups_within : AreFitting net.group (sectors net) (state_after net done).groups × (member_count (state_after net done).groups ≤ 256)
  groups_within =
      steps_within net w.formed.group 1 done rest (begin net) all_sound
      (begun_fitting first member net w.formed w.members w.placed w.each w.held, begun_members net w.members w.placed w.few)
      (ap (first_wide_from net 1) (sym whole) ∙ w.narrow)

-- the two groups of a pair step
pub pairs_within : FirstTensorsLaw → NetworkValueLaw → MemberLaw → LegsLeftAreOpen → PairsWithinLimits
pairs_within first value member law net w done rest before g between h behind bonds left whole =
    (pair_ready net.group w.formed.group (sectors net) (parities net) (state_after net done) before g between h behind bonds left here.1 k.0 k.1 law (opens net) here.0).cost
    narrow
  where
    k : AreFitting net.group (sectors net) (state_after net done).groups × (member_count (state_after net done).groups ≤ 256)
    k = groups_within first value member net w done (pair before g between h behind bonds left ∷ rest) whole

    here : AllSound (parities net) (opens net) (pair before g between h behind bonds left ∷ rest) (state_after net done)
    here = steps_sound (parities net) (opens net) done (pair before g between h behind bonds left ∷ rest) (begin net) (all_sound first value member net w done (pair before g between h behind bonds left ∷ rest) whole)

    narrow : is_too_wide net.group (joined_shape net.group (shape_of net.group (sectors net) g) (shape_of net.group (sectors net) h) (labels bonds)).legs
        (joined_shape net.group (shape_of net.group (sectors net) g) (shape_of net.group (sectors net) h) (labels bonds)).flux ≡ false
    narrow =
        ap (λ (x : ShapeValue). is_too_wide net.group x.legs x.flux) (joined_is net.group w.formed.group (sectors net) (parities net) (odd_flux (nodes between)) g h bonds)
        ∙ narrow_at net w.formed.group 1 done (pair before g between h behind bonds left) rest (ap (first_wide_from net 1) (sym whole) ∙ w.narrow)

pub within_limits : FirstTensorsLaw → NetworkValueLaw → MemberLaw → GroupsWithinLimits
within_limits first value member net w done rest whole = groups_within first value member net w done rest whole
