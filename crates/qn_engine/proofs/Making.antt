-- What one step makes of its parts.
use Rattle.std.proofs.Common.{◌≡◌, ◌≤◌, ℕ, ◌+◌, ℤ, Bool, true, false, not, ◌||◌, if◌then◌else◌, Option, List, [], ◌∷◌, ◌++◌, refl, sym, ◌∙◌, ap, ap₂, subst, subst₂, length, append-nil, int_eq}
use Rattle.std.specs.List.{All}
use Rattle.std.proofs.lemmas.List.{length-map}
use Rattle.std.proofs.lemmas.List.Elements.{filter-append}
use Rattle.qn_sign.specs.Sign.{is_in}
use Rattle.qn_charge.specs.declared.factor.Factor.{Factor}
use Rattle.qn_charge.specs.Charges.{parity, sum_charge}
use Rattle.qn_index.specs.Legs.{SectorValue, LegValue}
use Rattle.qn_index.specs.Tuples.{admitted}
use Rattle.qn_value.specs.Networks.{same_end, labels}
use Rattle.qn_value.specs.Tensors.{TensorValue, IsTensor}
use Rattle.qn_value.specs.Blocks.{legs_on}
use Rattle.qn_value.specs.Fluxes.{arrow_of}
use Rattle.qn_value.specs.Local.{open_legs, shared_couples, IsCoupling, Traced, Pairwise}
use Rattle.qn_value.specs.Magnitudes.{Place, first_passing, trace_magnitude, pair_magnitude}
use Rattle.qn_block.specs.Blocked.{BlockedValue, IsBlocked, tensor_of}
use Rattle.qn_match.specs.Pairs.{IsPair, ArePaired}
use Rattle.qn_match.specs.Cost.{cost_of}
use Rattle.qn_net.specs.Groups.{TensorGroup, flux_of}
use Rattle.qn_net.specs.Steps.{Step, State, result, fuses, meets_condition, IsStepAt}
use Rattle.qn_net.specs.Steps.Step.{pair, trace}
use Rattle.qn_net.specs.Carried.{IsSoundState}
use Rattle.qn_net.specs.Members.{MemberValue, member_tensor, role_of, IsNarrow}
use Rattle.qn_net.specs.Members.MemberValue.{own}
use Rattle.qn_net.specs.NetworkValues.{NetworkValue, parities, sectors, opens}
use Rattle.qn_net.specs.Operations.{IsTensorOf, AreTwistedLines, ArePairsOf, AreCouplesOf, parities_on, PairStepLaw, TraceStepLaw}
use Rattle.qn_net.specs.TwistedSteps.{twisted_where, twisted_inward}
use Rattle.qn_net.proofs.StepTensors.{lines_perm, lines_first}
use Rattle.qn_twist.specs.Twisted.{Twisted}
use Rattle.qn_net.specs.Passing.{takes, sums_over, result_magnitude, result_legs, made}
use Rattle.qn_plan.specs.Shapes.{shared_places}
use Rattle.qn_plan.specs.Planned.{cost_of_step}
use Rattle.qn_plan.proofs.Sharing.{pairs_named}
use Rattle.qn_pair.specs.Steps.{passing_place as pair_place}
use Rattle.qn_trace.specs.Steps.{passing_place as trace_place}
use Rattle.qn_engine.specs.Labels.{labels_without, shared_labels, coupled_labels}
use Rattle.qn_engine.specs.Parts.{PartValue, placed_part, ArePartsOf, IsPartOf, IsSameTensor}
use Rattle.qn_engine.specs.Carrying.{CanTake, is_odd_between, step_at, state_at, IsTraceAt, IsPairAt, IsMadeAt}
use Rattle.qn_engine.specs.Twisting.{twisted_places}
use Rattle.qn_engine.proofs.TwistedParts.{twisted_one, twisted_alone}
use Rattle.qn_engine.proofs.Naming.{names, shared_named, couples_named, all_stand}

-- a settled part has the tensor of the group
pub settled_tensor : (fs : List Factor) (sectors : ℤ → List SectorValue) (p : PartValue) (g : TensorGroup) (a : TensorValue) → IsPartOf fs sectors p g → IsTensor a → IsSameTensor a (member_tensor p.member) →
    IsTensorOf fs sectors (record { tensor = a; labels = p.labels }) g
settled_tensor fs sectors p g a k good same = record {
  node = record {
    group = same.group ∙ k.tensor.node.group;
    tensor = good;
    labels = k.tensor.node.labels;
    legs = same.legs ∙ k.tensor.node.legs;
    odd = ap (parity fs) same.flux ∙ k.tensor.node.odd;
    entry = λ xs l. same.entry xs ∙ k.tensor.node.entry xs l;
  };
  flux = same.flux ∙ k.tensor.flux;
}

-- the part's tensor, twisted at its legs of these labels
abbrev pub IsTwistedPart : Bool → List ℤ → List ℤ → PartValue → TensorValue → Type 0
IsTwistedPart all summed twist p a = Twisted (member_tensor p.member) (twisted_places all summed twist 0 (member_tensor p.member).legs p.labels) a

-- the first passing place of a step
abbrev pub passing_of : NetworkValue → Step → Option Place
passing_of net t = first_passing (result_magnitude (parities net) made t) (result_legs (parities net) (sectors net) t) (admitted net.group (result_legs (parities net) (sectors net) t) (flux_of net.group (result (parities net) t)))

-- what a trace step needs and gives
pub record TraceFacts (net : NetworkValue) (t : Step) (p : PartValue) (a : BlockedValue) (couples : List (ℕ × ℕ)) : Type 0 where
  pub coupling : IsCoupling a.legs couples
  pub made_of : (r : BlockedValue) (n : ℕ) (ls : List ℤ) → n ≡ p.number → ls ≡ labels_without (labels (sums_over t)) p.labels → IsBlocked r → IsTensor (tensor_of r) → Traced (tensor_of a) couples (tensor_of r) →
      IsPartOf net.group (sectors net) (record { number = n; member = own r; labels = ls }) (result (parities net) t)
  pub place : trace_place a couples ≡ passing_of net t

pub trace_facts : TraceStepLaw → (net : NetworkValue) (s : State) (t : Step) (p : PartValue) (a : BlockedValue) (couples : List (ℕ × ℕ)) → IsSoundState (parities net) (opens net) s → IsStepAt s t → AreTwistedLines net.twists (sectors net) s.left →
    ArePartsOf net.group (sectors net) (p ∷ []) (takes t) → IsTensor (tensor_of a) → IsTwistedPart false (labels (sums_over t)) net.twists p (tensor_of a) →
    couples ≡ coupled_labels p.labels (labels (sums_over t)) → TraceFacts net t p a couples
trace_facts law net s (pair before g between h behind bonds left) p a couples sound at lines k good same e = absurd k.1
trace_facts law net s (trace before g behind bonds left) p a couples sound at lines k good same e =
    let facts = law net.group (sectors net) (opens net) s before g behind bonds left net.twists (record { tensor = tensor_of a; labels = p.labels }) couples sound at lines here named in
    record {
      coupling = facts.0;
      made_of = λ r n ls en el b ok tr. record {
        number = en ∙ k.0.number;
        role = refl;
        tensor = subst (λ ks. IsTensorOf net.group (sectors net) (record { tensor = tensor_of r; labels = ks }) (result (parities net) (trace before g behind bonds left))) (sym el) (facts.1 (tensor_of r) ok tr);
        narrow = tt;
      };
      place = ap (λ qs. first_passing (trace_magnitude (tensor_of a) couples) (open_legs (tensor_of a ∷ []) couples) (admitted qs (open_legs (tensor_of a ∷ []) couples) a.flux)) here.node.group ∙ facts.4;
    }
  where
    here : IsTensorOf net.group (sectors net) (record { tensor = tensor_of a; labels = p.labels }) (twisted_inward (parities_on net.group (sectors net)) bonds g)
    here = twisted_alone net.group (sectors net) net.twists bonds (placed_part p) g (tensor_of a) (lines_first net.twists (sectors net) bonds left (lines_perm net.twists (sectors net) at.1 lines)) k.0.tensor good same

    named : AreCouplesOf p.labels bonds couples
    named =
        subst (AreCouplesOf p.labels bonds) (sym e)
        (subst (λ ls. AreCouplesOf ls bonds (coupled_labels ls (labels bonds))) (sym here.node.labels)
        (couples_named g.node.ends bonds (λ x h. subst (λ es. is_in same_end x es ≡ true) (append-nil g.node.ends) (at.2 x h))))

-- all labels of a trace step stand on its part
pub trace_stands : (net : NetworkValue) (s : State) (t : Step) (p : PartValue) → IsStepAt s t → ArePartsOf net.group (sectors net) (p ∷ []) (takes t) → All (λ l. is_in int_eq l p.labels ≡ true) (labels (sums_over t))
trace_stands net s (pair before g between h behind bonds left) p at k = absurd k.1
trace_stands net s (trace before g behind bonds left) p at k =
    subst (λ ls. All (λ l. is_in int_eq l ls ≡ true) (labels bonds)) (sym k.0.tensor.node.labels)
    (all_stand g.node.ends bonds (λ x h. subst (λ es. is_in same_end x es ≡ true) (append-nil g.node.ends) (at.2 x h)))

-- what a pair step needs and gives
pub record PairFacts (net : NetworkValue) (t : Step) (p q : PartValue) (a b : BlockedValue) (shared : List (ℕ × ℕ)) : Type 0 where
  pub can : IsPair a b shared
  pub made_of : (r : BlockedValue) (n : ℕ) (ls : List ℤ) → n ≡ p.number → ls ≡ labels_without (labels (sums_over t)) p.labels ++ labels_without (labels (sums_over t)) q.labels → IsTensor (tensor_of r) →
      Pairwise (tensor_of a) (tensor_of b) shared (is_odd_between t) (tensor_of r) → IsPartOf net.group (sectors net) (record { number = n; member = own r; labels = ls }) (result (parities net) t)
  pub place : pair_place a b shared ≡ passing_of net t
  pub cost : meets_condition (role_of p.member) p.labels (labels (sums_over t)) ≡ false → meets_condition (role_of q.member) q.labels (labels (sums_over t)) ≡ false →
      cost_of a.group a.legs a.flux b.legs b.flux shared ≡ cost_of_step net t

pub pair_facts : PairStepLaw → (net : NetworkValue) (s : State) (t : Step) (p q : PartValue) (a b : BlockedValue) (shared : List (ℕ × ℕ)) → IsSoundState (parities net) (opens net) s → IsStepAt s t →
    AreTwistedLines net.twists (sectors net) s.left → CanTake net t → ArePartsOf net.group (sectors net) (p ∷ q ∷ []) (takes t) → IsTensor (tensor_of a) → IsTensor (tensor_of b) →
    IsTwistedPart true (labels (sums_over t)) net.twists p (tensor_of a) → IsSameTensor (tensor_of b) (member_tensor q.member) →
    shared ≡ shared_labels p.labels q.labels (labels (sums_over t)) → PairFacts net t p q a b shared
pair_facts law net s (trace before g behind bonds left) p q a b shared sound at lines can k good fine same alike e = absurd k.1
pair_facts law net s (pair before g between h behind bonds left) p q a b shared sound at lines can k good fine same alike e =
    let facts = law net.group (sectors net) (opens net) s before g between h behind bonds left net.twists true (record { tensor = tensor_of a; labels = p.labels }) (record { tensor = tensor_of b; labels = q.labels }) shared sound at lines first second named in
    record {
      can = record {
        group = first.node.group ∙ sym second.node.group;
        shapes = transport_pair can.pair;
      };
      made_of = λ r n ls en el ok pw. record {
        number = en ∙ k.0.number;
        role = refl;
        tensor =
            subst (λ ks. IsTensorOf net.group (sectors net) (record { tensor = tensor_of r; labels = ks }) (result (parities net) (pair before g between h behind bonds left)))
            (filter-append (λ l. not (is_in int_eq l (labels bonds))) p.labels q.labels ∙ sym el) (facts.1 (tensor_of r) ok pw);
        narrow = tt;
      };
      place =
          ap (λ qs. first_passing (pair_magnitude (tensor_of a) (tensor_of b) shared) rest (admitted qs rest (sum_charge qs a.flux b.flux))) first.node.group
          ∙ facts.4;
      cost = λ m n. cost_same ∙ sym (ap₂ (λ (x y : Bool). if x || y then 0 else whole) (fused_not g p k.0 m) (fused_not h q k.1.0 n));
    }
  where
    fs : List Factor
    fs = net.group

    first : IsTensorOf net.group (sectors net) (record { tensor = tensor_of a; labels = p.labels }) (twisted_where true (parities_on net.group (sectors net)) bonds g)
    first = twisted_one net.group (sectors net) net.twists bonds (placed_part p) g (tensor_of a) (lines_first net.twists (sectors net) bonds left (lines_perm net.twists (sectors net) at.1 lines)) k.0.tensor good same

    second : IsTensorOf net.group (sectors net) (record { tensor = tensor_of b; labels = q.labels }) h
    second = settled_tensor net.group (sectors net) q h (tensor_of b) k.1.0 fine alike

    rest : List LegValue
    rest = open_legs (tensor_of a ∷ tensor_of b ∷ []) (shared_couples (tensor_of a) shared)

    shared_is : shared ≡ shared_places g.node.ends h.node.ends (labels bonds)
    shared_is =
        e ∙ ap₂ (λ (ks ls : List ℤ). shared_labels ks ls (labels bonds)) first.node.labels second.node.labels
        ∙ shared_named g.node.ends h.node.ends (labels bonds)

    named : ArePairsOf p.labels q.labels bonds shared
    named =
        subst (ArePairsOf p.labels q.labels bonds) (sym shared_is)
        (subst (λ ls. ArePairsOf ls q.labels bonds (shared_places g.node.ends h.node.ends (labels bonds))) (sym first.node.labels)
        (subst (λ ls. ArePairsOf (names g.node.ends) ls bonds (shared_places g.node.ends h.node.ends (labels bonds))) (sym second.node.labels)
        (pairs_named g.node h.node bonds at.3 at.4)))

    transport_pair : ArePaired net.group (legs_on (sectors net) g.node.ends) (flux_of net.group g) (legs_on (sectors net) h.node.ends) (flux_of net.group h) (shared_places g.node.ends h.node.ends (labels bonds)) →
        ArePaired a.group a.legs a.flux b.legs b.flux shared
    transport_pair w =
        subst (λ gs. ArePaired gs a.legs a.flux b.legs b.flux shared) (sym first.node.group)
        (subst (λ ls. ArePaired net.group ls a.flux b.legs b.flux shared) (sym first.node.legs)
        (subst (λ c. ArePaired net.group (legs_on (sectors net) g.node.ends) c b.legs b.flux shared) (sym first.flux)
        (subst (λ ls. ArePaired net.group (legs_on (sectors net) g.node.ends) (flux_of net.group g) ls b.flux shared) (sym second.node.legs)
        (subst (λ c. ArePaired net.group (legs_on (sectors net) g.node.ends) (flux_of net.group g) (legs_on (sectors net) h.node.ends) c shared) (sym second.flux)
        (subst (ArePaired net.group (legs_on (sectors net) g.node.ends) (flux_of net.group g) (legs_on (sectors net) h.node.ends) (flux_of net.group h)) (sym shared_is) w)))))

    whole : ℕ
    whole = cost_of net.group (legs_on (sectors net) g.node.ends) (flux_of net.group g) (legs_on (sectors net) h.node.ends) (flux_of net.group h) (shared_places g.node.ends h.node.ends (labels bonds))

    cost_same : cost_of a.group a.legs a.flux b.legs b.flux shared ≡ whole
    cost_same = λ i. cost_of (first.node.group i) (first.node.legs i) (first.flux i) (second.node.legs i) (second.flux i) (shared_is i)

    fused_not : (x : TensorGroup) (z : PartValue) → IsPartOf net.group (sectors net) z x → meets_condition (role_of z.member) z.labels (labels bonds) ≡ false → fuses x bonds ≡ false
    fused_not x z w m = ap₂ (λ r ls. meets_condition r ls (labels bonds)) (sym w.role) (sym w.tensor.node.labels) ∙ m

-- in the terms of a program

pub same_at : (t a : BlockedValue) (m : MemberValue) (p : PartValue) → a ≡ t → m ≡ p.member → IsSameTensor (tensor_of t) (member_tensor m) → IsSameTensor (tensor_of a) (member_tensor p.member)
same_at t a m p e q k = subst (λ u. IsSameTensor (tensor_of u) (member_tensor p.member)) (sym e) (subst (λ n. IsSameTensor (tensor_of t) (member_tensor n)) q k)

-- a part's labels, one for each leg
pub labels_long : (fs : List Factor) (sec : ℤ → List SectorValue) (p : PartValue) (g : TensorGroup) → IsPartOf fs sec p g → length p.labels ≡ length (member_tensor p.member).legs
labels_long fs sec p g k =
    ap (λ (ls : List ℤ). length ls) k.tensor.node.labels ∙ length-map g.node.ends (λ e. e.label)
    ∙ sym (length-map g.node.ends (λ e. record { arrow = arrow_of e.inward; sectors = sec e.label })) ∙ ap (λ (gs : List LegValue). length gs) (sym k.tensor.node.legs)

-- what the twisting of a settled part gives, in terms of the part
pub twist_at : (all : Bool) (summed twist ls : List ℤ) (t : BlockedValue) (m : MemberValue) (a : BlockedValue) (p : PartValue) → a ≡ t → m ≡ p.member → ls ≡ p.labels →
    Twisted (member_tensor m) (twisted_places all summed twist 0 (member_tensor m).legs ls) (tensor_of t) → IsTwistedPart all summed twist p (tensor_of a)
twist_at all summed twist ls t m a p ea em el w =
    subst (λ u. IsTwistedPart all summed twist p (tensor_of u)) (sym ea)
    (subst₂ (λ n ks. Twisted (member_tensor n) (twisted_places all summed twist 0 (member_tensor n).legs ks) (tensor_of t)) em el w)

pub trace_at : TraceStepLaw → (net : NetworkValue) (n : ℕ) (p : PartValue) (summed twist : List ℤ) → IsTraceAt net n p summed twist → (a : BlockedValue) (couples : List (ℕ × ℕ)) → IsTensor (tensor_of a) →
    IsTwistedPart false summed twist p (tensor_of a) → couples ≡ coupled_labels p.labels summed → TraceFacts net (step_at net n) p a couples
trace_at law net n p summed twist w a couples good same e =
    trace_facts law net (state_at net n) (step_at net n) p a couples w.ready.sound w.ready.step w.ready.lines w.taken good
    (subst₂ (λ ss ts. IsTwistedPart false ss ts p (tensor_of a)) w.over w.twists same) (e ∙ ap (coupled_labels p.labels) w.over)

pub trace_labels : (net : NetworkValue) (n : ℕ) (p : PartValue) (summed twist ls : List ℤ) → IsTraceAt net n p summed twist → ls ≡ p.labels → All (λ l. is_in int_eq l ls ≡ true) summed
trace_labels net n p summed twist ls w e =
    subst (λ ks. All (λ l. is_in int_eq l ks ≡ true) summed) (sym e)
    (subst (All (λ l. is_in int_eq l p.labels ≡ true)) (sym w.over) (trace_stands net (state_at net n) (step_at net n) p w.ready.step w.taken))

pub trace_made : (net : NetworkValue) (n : ℕ) (p : PartValue) (summed twist : List ℤ) → IsTraceAt net n p summed twist → (a : BlockedValue) (couples : List (ℕ × ℕ)) → TraceFacts net (step_at net n) p a couples →
    (t : BlockedValue) (r : PartValue) (m : ℕ) (xs : List ℤ) → r ≡ record { number = m; member = own t; labels = labels_without summed xs ++ [] } → m ≡ p.number → xs ≡ p.labels → IsBlocked t → IsTensor (tensor_of t) →
    Traced (tensor_of a) couples (tensor_of t) → IsMadeAt net n r
trace_made net n p summed twist w a couples facts t r m xs e em ex b ok tr =
    subst (IsMadeAt net n) (sym e)
    (facts.made_of t m (labels_without summed xs ++ []) em (append-nil (labels_without summed xs) ∙ ap₂ (λ (s ls : List ℤ). labels_without s ls) w.over ex) b ok tr)

pub pair_at : PairStepLaw → (net : NetworkValue) (n : ℕ) (p q : PartValue) (between : Bool) (summed twist : List ℤ) → IsPairAt net n p q between summed twist → (a b : BlockedValue) (shared : List (ℕ × ℕ)) → IsTensor (tensor_of a) → IsTensor (tensor_of b) →
    IsTwistedPart true summed twist p (tensor_of a) → IsSameTensor (tensor_of b) (member_tensor q.member) → shared ≡ shared_labels p.labels q.labels summed → PairFacts net (step_at net n) p q a b shared
pair_at law net n p q between summed twist w a b shared good fine same alike e =
    pair_facts law net (state_at net n) (step_at net n) p q a b shared w.ready.sound w.ready.step w.ready.lines w.ready.can w.taken good fine
    (subst₂ (λ ss ts. IsTwistedPart true ss ts p (tensor_of a)) w.over w.twists same) alike (e ∙ ap (shared_labels p.labels q.labels) w.over)

pub pair_made : (net : NetworkValue) (n : ℕ) (p q : PartValue) (between : Bool) (summed twist : List ℤ) → IsPairAt net n p q between summed twist → (a b : BlockedValue) (shared : List (ℕ × ℕ)) → PairFacts net (step_at net n) p q a b shared →
    (t : BlockedValue) (r : PartValue) (m : ℕ) (xs ys : List ℤ) → r ≡ record { number = m; member = own t; labels = labels_without summed xs ++ labels_without summed ys } → m ≡ p.number → xs ≡ p.labels → ys ≡ q.labels →
    IsTensor (tensor_of t) → Pairwise (tensor_of a) (tensor_of b) shared between (tensor_of t) → IsMadeAt net n r
pair_made net n p q between summed twist w a b shared facts t r m xs ys e em ex ey ok pw =
    subst (IsMadeAt net n) (sym e)
    (facts.made_of t m (labels_without summed xs ++ labels_without summed ys) em (λ i. labels_without (w.over i) (ex i) ++ labels_without (w.over i) (ey i)) ok
    (subst (λ x. Pairwise (tensor_of a) (tensor_of b) shared x (tensor_of t)) w.odd pw))

-- the steps of a pair step that does not fuse
pub pair_cost : (net : NetworkValue) (n : ℕ) (p q : PartValue) (between : Bool) (summed twist : List ℤ) → IsPairAt net n p q between summed twist → (a b : BlockedValue) (shared : List (ℕ × ℕ)) → PairFacts net (step_at net n) p q a b shared →
    meets_condition (role_of p.member) p.labels summed ≡ false → meets_condition (role_of q.member) q.labels summed ≡ false → (before now : ℕ) → now ≤ before + cost_of a.group a.legs a.flux b.legs b.flux shared →
    now ≤ before + cost_of_step net (step_at net n)
pair_cost net n p q between summed twist w a b shared facts x y before now h =
    subst (λ k. now ≤ before + k)
    (facts.cost (ap (meets_condition (role_of p.member) p.labels) (sym w.over) ∙ x) (ap (meets_condition (role_of q.member) q.labels) (sym w.over) ∙ y)) h

-- tables that a step takes are within the limits
pub taken_narrow : (fs : List Factor) (sec : ℤ → List SectorValue) (p q : PartValue) (gs : List TensorGroup) → ArePartsOf fs sec (p ∷ q ∷ []) gs → IsNarrow p.member × IsNarrow q.member
taken_narrow fs sec p q [] k = absurd k
taken_narrow fs sec p q (g ∷ []) k = absurd k.1
taken_narrow fs sec p q (g ∷ h ∷ []) k = (k.0.narrow, k.1.0.narrow)
taken_narrow fs sec p q (g ∷ h ∷ i ∷ gs) k = absurd k.1.1

-- their labels are one for each leg
pub taken_long : (fs : List Factor) (sec : ℤ → List SectorValue) (p q : PartValue) (gs : List TensorGroup) → ArePartsOf fs sec (p ∷ q ∷ []) gs →
    (length p.labels ≡ length (member_tensor p.member).legs) × (length q.labels ≡ length (member_tensor q.member).legs)
taken_long fs sec p q [] k = absurd k
taken_long fs sec p q (g ∷ []) k = absurd k.1
taken_long fs sec p q (g ∷ h ∷ []) k = (labels_long fs sec p g k.0, labels_long fs sec q h k.1.0)
taken_long fs sec p q (g ∷ h ∷ i ∷ gs) k = absurd k.1.1

pub labels_at : (p : PartValue) (m : MemberValue) (ls : List ℤ) → m ≡ p.member → ls ≡ p.labels → length p.labels ≡ length (member_tensor p.member).legs → length ls ≡ length (member_tensor m).legs
labels_at p m ls em el k = ap (λ (xs : List ℤ). length xs) el ∙ k ∙ ap (λ n. length (member_tensor n).legs) (sym em)

pub trace_narrow : (fs : List Factor) (sec : ℤ → List SectorValue) (p : PartValue) (gs : List TensorGroup) → ArePartsOf fs sec (p ∷ []) gs →
    IsNarrow p.member × (length p.labels ≡ length (member_tensor p.member).legs)
trace_narrow fs sec p [] k = absurd k
trace_narrow fs sec p (g ∷ []) k = (k.0.narrow, labels_long fs sec p g k.0)
trace_narrow fs sec p (g ∷ h ∷ gs) k = absurd k.1
