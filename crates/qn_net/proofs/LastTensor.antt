-- The last tensor of a plan, with its legs in the order of the open labels.
use Rattle.std.proofs.lemmas.Simd.{map-map}
use Rattle.std.proofs.Common.{◌≡◌, ◌<◌, ◌==◌, ℕ, zero, suc, ◌+◌, ℤ, pos, negsuc, Bool, true, false, ◌||◌, List, [], ◌∷◌, ◌++◌, refl, sym, ◌∙◌, ap, ap₂, subst, map, length, get_or, append-nil, append_assoc, subst₂, ◌⊎◌, inl, inr, int_eq, eqb-true, arith}
use Rattle.std.specs.List.{All, flat_map, range_with_len}
use Rattle.std.proofs.lemmas.Bool.{or_cases, or_left, or_right, false≢true}
use Rattle.std.proofs.lemmas.List.{length-map, map-append, get_or-map}
use Rattle.std.proofs.lemmas.List.Elements.{All-map}
use Rattle.qn_sign.specs.Sign.{is_in, is_odd, exchange_sign, IsDistinct, Perm}
use Rattle.qn_sign.specs.Sign.Perm.{then_by}
use Rattle.qn_sign.specs.Positions.{positions, is_odd_at, IsOrder}
use Rattle.qn_sign.proofs.Parity.{perm-refl, perm_under, perm_before, perm_blocks}
use Rattle.qn_sign.proofs.Order.{is_in-perm, distinct-perm}
use Rattle.qn_sign.proofs.Positions.{is_in-at, positions_stand_for_things}
use Rattle.qn_gauss.specs.Gaussian.{signed}
use Rattle.qn_charge.specs.declared.factor.Factor.{Factor}
use Rattle.qn_charge.specs.Charges.{IsGroup}
use Rattle.qn_index.specs.Legs.{SectorValue, LegValue, total, parity_at}
use Rattle.qn_index.specs.Places.{IsValues}
use Rattle.qn_value.specs.Networks.{End, Node, Assignment, Parities, same_end, odd_end, values, at_values, moved}
use Rattle.qn_value.specs.Tensors.{TensorValue, entry_of}
use Rattle.qn_value.specs.Labels.{Placed, ends, open_end, opens_of}
use Rattle.qn_value.specs.Fluxes.{arrow_of, sum_flux}
use Rattle.qn_value.specs.Blocks.{legs_on}
use Rattle.qn_value.specs.Local.{no_leg, picked, parities as leg_parities, moving_sign, Moved}
use Rattle.qn_value.proofs.NetLaws.{end_test}
use Rattle.qn_value.proofs.Sums.{label_test}
use Rattle.qn_value.proofs.RowsLemmas.{values_back}
use Rattle.qn_value.proofs.PlacedLemmas.{all_first, all_others}
use Rattle.qn_value.proofs.BlocksLemmas.{length-legs}
use Rattle.qn_net.specs.Groups.{Listed, TensorGroup, merged, flux_of}
use Rattle.qn_net.specs.Steps.{Step, State, result, after, carry, IsStepAt}
use Rattle.qn_net.specs.Steps.Step.{pair, trace}
use Rattle.qn_net.specs.Plans.{start}
use Rattle.qn_net.specs.Carried.{AllSound, IsSoundState}
use Rattle.qn_net.specs.NetworkValues.{PlacedMember, legs_of, parities, sectors, open_count, opens, begin, steps, member_of}
use Rattle.qn_net.specs.Operations.{IsNodeOf, open_labels, LastTensorLaw}
use Rattle.qn_net.proofs.PartLemmas.{perm_merged}
use Rattle.qn_net.proofs.PlanTwist.{steps_sound}
use Rattle.qn_net.proofs.PassingLemmas.{flux, flux-perm}
use Rattle.qn_net.proofs.NetworkLemmas.{network_value}
use Rattle.qn_net.proofs.CoupledNodes.{no_end}
use Rattle.qn_net.proofs.StepTensors.{map_all}
use Rattle.qn_sign.proofs.Positions.{length-perm}
use Rattle.qn_facts.proofs.Lists.{range_last}
use Rattle.qn_net.proofs.Held.{value_below}
pub use Rattle.qn_net.proofs.Held.{value_below as values_below}

-- the labels of the open legs

pub labels_of_opens : (es : List End) (n : ℕ) → map (λ (e : End). e.label) (opens_of es n) ≡ open_labels n
labels_of_opens es zero = refl
labels_of_opens es (suc n) =
    map-append (λ (e : End). e.label) (opens_of es n) (open_end es n ∷ [])
    ∙ ap (λ ls. ls ++ negsuc n ∷ []) (labels_of_opens es n)
    ∙ sym (map-append negsuc (positions n) (n ∷ []))
    ∙ ap (map negsuc) (sym (range_last 0 n ∙ ap (λ k. positions n ++ k ∷ []) (omega arith)))

open_labels_distinct : (a n : ℕ) → IsDistinct int_eq (map negsuc (range_with_len a n))
open_labels_distinct a zero = tt
open_labels_distinct a (suc n) = (fresh (a + 1) n (omega arith), open_labels_distinct (a + 1) n)
  where
    number : (m k : ℕ) → negsuc m ≡ negsuc k → m ≡ k
    number m k e = cc e

    fresh : (b m : ℕ) → a < b → is_in int_eq (negsuc a) (map negsuc (range_with_len b m)) ≡ false
    fresh b zero l = refl
    fresh b (suc m) l = go (int_eq (negsuc a) (negsuc b)) refl (fresh (b + 1) m (omega (arith, l)))
      where
        go : (t : Bool) → int_eq (negsuc a) (negsuc b) ≡ t → is_in int_eq (negsuc a) (map negsuc (range_with_len (b + 1) m)) ≡ false →
            (t || is_in int_eq (negsuc a) (map negsuc (range_with_len (b + 1) m))) ≡ false
        go false e ih = ih
        go true e ih = let s : a ≡ b = number a b (label_test.equal (negsuc a) (negsuc b) e) in absurd (omega (arith, s, l))

-- a list whose image has no repeats has none
distinct_image : (f : ℕ → ℤ) (ks : List ℕ) → IsDistinct int_eq (map f ks) → IsDistinct ◌==◌ ks
distinct_image f [] d = tt
distinct_image f (k ∷ ks) d = (fresh (is_in ◌==◌ k ks) refl, distinct_image f ks d.1)
  where
    image : (js : List ℕ) → is_in ◌==◌ k js ≡ true → is_in int_eq (f k) (map f js) ≡ true
    image [] h = absurd (false≢true h)
    image (j ∷ js) h = go (or_cases (k == j) (is_in ◌==◌ k js) h) (image js)
      where
        go : ((k == j) ≡ true) ⊎ (is_in ◌==◌ k js ≡ true) → (is_in ◌==◌ k js ≡ true → is_in int_eq (f k) (map f js) ≡ true) → (int_eq (f k) (f j) || is_in int_eq (f k) (map f js)) ≡ true
        go (inl e) ih = or_left (int_eq (f k) (f j)) (is_in int_eq (f k) (map f js)) (subst (λ i. int_eq (f k) (f i) ≡ true) (eqb-true k j e) (label_test.itself (f k)))
        go (inr e) ih = or_right (int_eq (f k) (f j)) (is_in int_eq (f k) (map f js)) (ih e)

    fresh : (b : Bool) → is_in ◌==◌ k ks ≡ b → b ≡ false
    fresh false e = refl
    fresh true e = absurd (false≢true (sym d.0 ∙ image ks e))

-- an end is known by its label among ends whose labels differ
label_in_list : (es : List End) (e : End) → is_in same_end e es ≡ true → is_in int_eq e.label (map (λ (x : End). x.label) es) ≡ true
label_in_list [] e h = absurd (false≢true h)
label_in_list (x ∷ es) e h = go (or_cases (same_end e x) (is_in same_end e es) h) (label_in_list es e)
  where
    go : (same_end e x ≡ true) ⊎ (is_in same_end e es ≡ true) → (is_in same_end e es ≡ true → is_in int_eq e.label (map (λ (x : End). x.label) es) ≡ true) →
        (int_eq e.label x.label || is_in int_eq e.label (map (λ (x : End). x.label) es)) ≡ true
    go (inl q) ih = or_left (int_eq e.label x.label) (is_in int_eq e.label (map (λ (x : End). x.label) es)) (subst (λ (y : End). int_eq e.label y.label ≡ true) (end_test.equal e x q) (label_test.itself e.label))
    go (inr q) ih = or_right (int_eq e.label x.label) (is_in int_eq e.label (map (λ (x : End). x.label) es)) (ih q)

by_label : (es : List End) → IsDistinct int_eq (map (λ (x : End). x.label) es) → (e f : End) → is_in same_end e es ≡ true → is_in same_end f es ≡ true → e.label ≡ f.label → e ≡ f
by_label [] d e f h k s = absurd (false≢true h)
by_label (x ∷ es) d e f h k s = go (or_cases (same_end e x) (is_in same_end e es) h) (or_cases (same_end f x) (is_in same_end f es) k) (by_label es d.1 e f)
  where
    clash : (y z : End) → y ≡ x → is_in same_end z es ≡ true → y.label ≡ z.label → ⊥
    clash y z p q r = false≢true (sym d.0 ∙ subst (λ l. is_in int_eq l (map (λ (x : End). x.label) es) ≡ true) (sym r ∙ ap (λ (w : End). w.label) p) (label_in_list es z q))

    go : (same_end e x ≡ true) ⊎ (is_in same_end e es ≡ true) → (same_end f x ≡ true) ⊎ (is_in same_end f es ≡ true) →
        (is_in same_end e es ≡ true → is_in same_end f es ≡ true → e.label ≡ f.label → e ≡ f) → e ≡ f
    go (inl p) (inl q) ih = end_test.equal e x p ∙ sym (end_test.equal f x q)
    go (inl p) (inr q) ih = absurd (clash e f (end_test.equal e x p) q s)
    go (inr p) (inl q) ih = absurd (clash f e (end_test.equal f x q) p (sym s))
    go (inr p) (inr q) ih = ih p q s

same_by_labels : (es : List End) → IsDistinct int_eq (map (λ (x : End). x.label) es) → (us vs : List End) → All (λ e. is_in same_end e es ≡ true) us → All (λ e. is_in same_end e es ≡ true) vs →
    map (λ (x : End). x.label) us ≡ map (λ (x : End). x.label) vs → us ≡ vs
same_by_labels es d [] [] h k e = refl
same_by_labels es d [] (v ∷ vs) h k e = absurd (cc e)
same_by_labels es d (u ∷ us) [] h k e = absurd (cc e)
same_by_labels es d (u ∷ us) (v ∷ vs) h k e =
    ap₂ ◌∷◌ (by_label es d u v (all_first (λ e. is_in same_end e es ≡ true) u us h) (all_first (λ e. is_in same_end e es ≡ true) v vs k) (first e))
    (same_by_labels es d us vs (all_others (λ e. is_in same_end e es ≡ true) u us h) (all_others (λ e. is_in same_end e es ≡ true) v vs k) (others e))
  where
    first : {x y : ℤ} {xs ys : List ℤ} → x ∷ xs ≡ y ∷ ys → x ≡ y
    first e = cc e

    others : {x y : ℤ} {xs ys : List ℤ} → x ∷ xs ≡ y ∷ ys → xs ≡ ys
    others e = cc e

all_in : (es : List End) → All (λ e. is_in same_end e es ≡ true) es
all_in es k d l = is_in-at same_end end_test es k d l

-- values in range

pub values_from : (sectors : ℤ → List SectorValue) (es : List End) (a : Assignment) → ((e : End) → is_in same_end e es ≡ true → a e < total (sectors e.label)) → IsValues (legs_on sectors es) (values es a)
values_from sectors [] a h = refl
values_from sectors (e ∷ es) a h =
    (h e (or_left (same_end e e) (is_in same_end e es) (end_test.itself e)), values_from sectors es a (λ f i. h f (or_right (same_end f e) (is_in same_end f es) i)))

pub values_count : (sectors : ℤ → List SectorValue) (es : List End) (xs : List ℕ) → IsValues (legs_on sectors es) xs → length xs ≡ length es
values_count sectors [] xs h = ap (λ (ys : List ℕ). length ys) h
values_count sectors (e ∷ es) [] h = absurd h
values_count sectors (e ∷ es) (x ∷ xs) h = ap suc (values_count sectors es xs h.1)

pub parities_by_ends : (fs : List Factor) (sectors : ℤ → List SectorValue) (es : List End) (a : Assignment) →
    map (odd_end (λ l v. parity_at fs (sectors l) v) a) es ≡ leg_parities fs (legs_on sectors es) (values es a)
parities_by_ends fs sectors [] a = refl
parities_by_ends fs sectors (e ∷ es) a = ap (λ bs. parity_at fs (sectors e.label) (a e) ∷ bs) (parities_by_ends fs sectors es a)

-- one tensor with its legs in another order

module _ (fs : List Factor) (sectors : ℤ → List SectorValue) (p : Placed) (n : Node) (hp : IsNodeOf fs sectors p n) (os : List End) (distinct : IsDistinct same_end n.ends) (complete : Perm n.ends os)
    (apart : IsDistinct int_eq (map (λ (x : End). x.label) os)) (order : List ℕ) (within : All (λ k. k < length p.labels) order) (named : picked (pos 0) p.labels order ≡ map (λ (x : End). x.label) os) where
  abbrev at : ℕ → End
  at k = get_or n.ends k no_end

  many : length p.labels ≡ length n.ends
  many = ap (λ (ls : List ℤ). length ls) hp.labels ∙ length-map n.ends (λ e. e.label)

  below : All (λ k. k < length n.ends) order
  below = subst (λ m. All (λ k. k < m) order) many within

  ends_picked : map (λ k. get_or n.ends k no_end) order ≡ os
  ends_picked =
      same_by_labels os apart (map (λ k. get_or n.ends k no_end) order) os
      (All-map (λ e. is_in same_end e os ≡ true) (λ k. get_or n.ends k no_end) order
      (λ j d l. sym (is_in-perm same_end (at (get_or order j d)) complete) ∙ is_in-at same_end end_test n.ends (get_or order j d) no_end (below j d l)))
      (all_in os)
      (map-map (λ (x : End). x.label) (λ k. get_or n.ends k no_end) order
      ∙ sym (ap (λ ls. picked (pos 0) ls order) hp.labels
      ∙ map_all (λ k. get_or (map (λ (e : End). e.label) n.ends) k (pos 0)) (λ k. (get_or n.ends k no_end).label) order
      (λ j d l. get_or-map (λ (e : End). e.label) n.ends (get_or order j d) no_end (pos 0) (below j d l)))
      ∙ named)

  pub is_order : IsOrder (length p.tensor.legs) order
  is_order = record {
    count =
        sym (length-map order (λ k. get_or n.ends k no_end)) ∙ ap (λ (es : List End). length es) ends_picked ∙ sym (length-perm complete)
        ∙ sym (ap (λ (gs : List LegValue). length gs) hp.legs ∙ length-legs sectors n.ends);
    within = subst (λ m. All (λ k. k < m) order) (sym (ap (λ (gs : List LegValue). length gs) hp.legs ∙ length-legs sectors n.ends)) below;
    distinct = distinct_image (λ k. get_or p.labels k (pos 0)) order (subst (IsDistinct int_eq) (sym named) apart);
  }

  module _ (r : TensorValue) (m : Moved p.tensor order r) where
    pub legs_moved : r.legs ≡ legs_on sectors os
    legs_moved =
        m.legs ∙ ap (λ gs. picked no_leg gs order) hp.legs
        ∙ map_all (λ k. get_or (legs_on sectors n.ends) k no_leg) (λ k. record { arrow = arrow_of (at k).inward; sectors = sectors (at k).label }) order
        (λ j d l. get_or-map (λ (e : End). record { arrow = arrow_of e.inward; sectors = sectors e.label }) n.ends (get_or order j d) no_end no_leg (below j d l))
        ∙ sym (map-map (λ (e : End). record { arrow = arrow_of e.inward; sectors = sectors e.label }) (λ k. get_or n.ends k no_end) order)
        ∙ ap (legs_on sectors) ends_picked

    os_distinct : IsDistinct same_end os
    os_distinct = distinct-perm same_end end_test complete distinct

    pub entry_moved : (ys : List ℕ) → IsValues r.legs ys → entry_of r ys ≡ (moved (λ l v. parity_at fs (sectors l) v) n os).entry ys
    entry_moved ys v =
        let a : Assignment = at_values os ys in
        let long : length ys ≡ length os = values_count sectors os ys (subst (λ gs. IsValues gs ys) legs_moved v) in
        let back : values os a ≡ ys = values_back os ys os_distinct long in
        let xs : List ℕ = values n.ends a in
        let inside : IsValues (legs_on sectors os) (values os a) = subst (IsValues (legs_on sectors os)) (sym back) (subst (λ gs. IsValues gs ys) legs_moved v) in
        let range : IsValues p.tensor.legs (values n.ends a) =
        subst (λ gs. IsValues gs (values n.ends a)) (sym hp.legs)
        (values_from sectors n.ends a (λ e i. value_below sectors os a inside e (sym (is_in-perm same_end e complete) ∙ i))) in
        let places : picked 0 (values n.ends a) order ≡ ys =
        map_all (λ k. get_or (values n.ends a) k 0) (λ k. a (at k)) order (λ j d l. get_or-map a n.ends (get_or order j d) no_end 0 (below j d l))
        ∙ sym (map-map a (λ k. get_or n.ends k no_end) order) ∙ ap (λ es. values es a) ends_picked ∙ back in
        let sign : moving_sign p.tensor.group p.tensor.legs (values n.ends a) order ≡ exchange_sign same_end (odd_end (λ l v. parity_at fs (sectors l) v) a) n.ends os =
        ap₂ (λ gs ls. moving_sign gs ls (values n.ends a) order) hp.group hp.legs
        ∙ ap₂ (λ bs k. exchange_sign ◌==◌ (is_odd_at bs) (positions k) order) (sym (parities_by_ends fs sectors n.ends a)) (length-legs sectors n.ends)
        ∙ ap is_odd (sym (positions_stand_for_things same_end end_test (odd_end (λ l v. parity_at fs (sectors l) v) a) n.ends no_end order distinct below))
        ∙ ap (exchange_sign same_end (odd_end (λ l v. parity_at fs (sectors l) v) a) n.ends) ends_picked in
        ap (entry_of r) (sym places)
        ∙ m.entries (values n.ends a) range
        ∙ ap₂ signed sign (hp.entry (values n.ends a) (length-map n.ends a))

-- the members of all groups

abbrev all_members : List TensorGroup → List Listed
all_members gs = flat_map (λ g. g.members) gs

members-append : (gs hs : List TensorGroup) → all_members (gs ++ hs) ≡ all_members gs ++ all_members hs
members-append [] hs = refl
members-append (g ∷ gs) hs = ap (λ ms. g.members ++ ms) (members-append gs hs) ∙ sym (append_assoc g.members (all_members gs) (all_members hs))

step_members : (par : Parities) (s : State) (t : Step) → IsStepAt s t → Perm (all_members s.groups) (all_members (after par t).groups)
step_members par s (pair before g between h behind bonds left) at =
    subst (λ gs. Perm (all_members gs) (all_members (after par (pair before g between h behind bonds left)).groups)) (sym at.0)
    (subst₂ Perm
    (sym (members-append before (g ∷ (between ++ (h ∷ behind))) ∙ ap (λ ms. all_members before ++ (g.members ++ ms)) (members-append between (h ∷ behind))))
    (sym (members-append before ((result par (pair before g between h behind bonds left)) ∷ (between ++ behind)) ∙ ap (λ ms. all_members before ++ (merged g.members h.members ++ ms)) (members-append between behind)))
    (perm_under (all_members before)
    (then_by (perm_under g.members (perm_blocks (all_members between) h.members (all_members behind)))
    (subst (λ ms. Perm ms (merged g.members h.members ++ (all_members between ++ all_members behind))) (append_assoc g.members h.members (all_members between ++ all_members behind))
    (perm_before (all_members between ++ all_members behind) (perm_merged g.members h.members))))))
step_members par s (trace before g behind bonds left) at =
    subst (λ gs. Perm (all_members gs) (all_members (after par (trace before g behind bonds left)).groups)) (sym at.0)
    (subst₂ Perm (sym (members-append before (g ∷ behind))) (sym (members-append before (result par (trace before g behind bonds left) ∷ behind)))
    (perm-refl (all_members before ++ (g.members ++ all_members behind))))

carried_members : (par : Parities) (os : List End) (ts : List Step) (s : State) → AllSound par os ts s → Perm (all_members s.groups) (all_members (carry par ts s).groups)
carried_members par os [] s k = perm-refl (all_members s.groups)
carried_members par os (t ∷ ts) s k = then_by (step_members par s t k.1) (carried_members par os ts (after par t) k.2)

first_fluxes : (n : ℕ) (ms : List PlacedMember) → map (λ (m : Listed). m.flux) (all_members (start n (map member_of ms))) ≡ map (λ (m : PlacedMember). m.placed.tensor.flux) ms
first_fluxes n [] = refl
first_fluxes n (m ∷ ms) = ap (λ qs. m.placed.tensor.flux ∷ qs) (first_fluxes (suc n) ms)

pub last_tensor : LastTensorLaw
last_tensor net last p order w ended hp within named =
    let v = network_value net w in
    let all : AllSound (parities net) (opens net) (steps net ++ []) (begin net) = subst (λ ts. AllSound (parities net) (opens net) ts (begin net)) (sym (append-nil (steps net))) v.0 in
    let sound : IsSoundState (parities net) (opens net) (record { groups = last ∷ []; left = [] }) =
    subst (IsSoundState (parities net) (opens net)) ended (steps_sound (parities net) (opens net) (steps net) [] (begin net) all) in
    let distinct : IsDistinct same_end last.node.ends = subst (IsDistinct same_end) (append-nil last.node.ends) sound.network.distinct in
    let complete : Perm last.node.ends (opens net) = subst (λ es. Perm es (opens net)) (append-nil last.node.ends) sound.network.complete in
    let count : ℕ = open_count (ends (legs_of net)) in
    let labels : map (λ (x : End). x.label) (opens net) ≡ open_labels (open_count (ends (legs_of net))) = labels_of_opens (ends (legs_of net)) (open_count (ends (legs_of net))) in
    let apart : IsDistinct int_eq (map (λ (x : End). x.label) (opens net)) = subst (IsDistinct int_eq) (sym labels) (open_labels_distinct 0 (open_count (ends (legs_of net)))) in
    let group : IsGroup net.group = w.group in
    let same : v.1.0 ≡ last = first (ap (λ (s : State). s.groups) (sym v.1.1 ∙ ended)) in
    let total_flux : flux_of net.group last ≡ sum_flux net.group (map (λ (m : PlacedMember). m.placed.tensor.flux) net.members) =
    ap (λ ms. flux net.group group (sectors net) ms) (sym (append-nil last.members))
    ∙ sym (flux-perm net.group group (sectors net) (subst (λ s. Perm (all_members (begin net).groups) (all_members s.groups)) ended (carried_members (parities net) (opens net) (steps net) (begin net) v.0)))
    ∙ ap (sum_flux net.group) (first_fluxes 1 net.members) in (
      is_order net.group (sectors net) p last.node hp.node (opens net) distinct complete apart order within (named ∙ sym labels),
      (λ r m. (
        legs_moved net.group (sectors net) p last.node hp.node (opens net) distinct complete apart order within (named ∙ sym labels) r m,
        m.flux ∙ hp.flux ∙ total_flux,
        (λ xs i. entry_moved net.group (sectors net) p last.node hp.node (opens net) distinct complete apart order within (named ∙ sym labels) r m xs i
            ∙ sym (v.1.2 xs ∙ ap (λ (g : TensorGroup). (moved (parities net) g.node (opens net)).entry xs) same)),
      )),
    )
  where
    first : {x y : TensorGroup} {xs ys : List TensorGroup} → x ∷ xs ≡ y ∷ ys → x ≡ y
    first e = cc e
