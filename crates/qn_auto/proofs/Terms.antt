-- The terms of an operator sum in site order: their operators, their charge, and the charges of the automaton's states.
use Rattle.std.proofs.Common.{◌≡◌, ◌≢◌, ℕ, ℤ, zero, suc, ◌+◌, ◌-◌, ◌*◌, ◌^◌, ◌<◌, ◌≤◌, ◌⊎◌, inl, inr, Bool, true, false, cond, List, [], ◌∷◌, length, get_or, map, refl, sym, ◌∙◌, ap, ap₂, subst, arith}
use Rattle.std.specs.Prelude.{nat_lt}
use Rattle.std.specs.List.{All}
use Rattle.std.proofs.lemmas.Bool.{false≢true}
use Rattle.std.proofs.lemmas.List.{get_or_default, length-map}
use Rattle.qn_charge.specs.Charges.{IsCanonical, IsGroup, IsWithin, neg_charge, sum_charge, zero_charge}
use Rattle.qn_charge.specs.Laws.{canonical_sum, canonical_zero, commutative_charge, neg_of_zero, within_more, within_neg, within_sum, within_zero, zero_is_neutral}
use Rattle.qn_value.specs.Tensors.{same_values}
use Rattle.qn_value.proofs.RowsLemmas.{same_values-itself}
use Rattle.qn_value.proofs.Values.{same_values-equal}
use Rattle.qn_sites.specs.Operators.{OpValue}
use Rattle.qn_sites.specs.Sites.{SiteValue, name_at, no_operator}
use Rattle.qn_opsum.specs.Strings.{AreOrdered, Factor, in_site_order, place}
use Rattle.qn_opsum.specs.Sums.{SumValue, TermValue, factor_of, no_site, no_term, op_at, op_for, ops_for, place_of, site_at, term_at}
use Rattle.qn_opsum.specs.Sums as sums
use Rattle.qn_opsum.specs.Refusals.{AreSites, IsGood, IsSum, IsUnknown}
use Rattle.qn_opsum.proofs.Lookups.{good_at, some_terms}
use Rattle.qn_opsum.proofs.NormalOrder.{ordered-sort}
use Rattle.qn_auto.specs.Automaton.{Stage, Term, after, begin, next, normal, stage, to_come}
use Rattle.qn_auto.specs.Automaton.Stage.{not_begun, rest, done}
use Rattle.qn_auto.specs.Flux.{HaveFlux, charge_of}
use Rattle.qn_auto.specs.SumAutomaton.{op_charge, sites_in, state_charge, term_in, terms_in}
use Rattle.qn_auto.specs.Terms.{AreTermOf, IsFactorOf, IsStageOf, IsTermOf, charge_in}
use Rattle.qn_auto.proofs.Stages.{AllOf}
use Rattle.qn_auto.proofs.Ordered.{all_from, all_to}
use Rattle.qn_auto.proofs.FluxLaws.{charge_sort, charges_form_group}

-- a name stands at its place, or it is none of the names
place_cases : (os : List OpValue) (n : List ℕ) → (place_of os n < length os) ⊎ ((i : ℕ) → i < length os → name_at os i ≢ n)
place_cases [] n = inr (λ i lt e. none i lt)
  where
    none : (i : ℕ) → i < 0 → ⊥
    none i lt = omega arith
place_cases (o ∷ os) n = by (same_values o.name n) refl (place_cases os n)
  where
    some : (k : ℕ) → 0 < suc k
    some k = omega arith

    more : (k m : ℕ) → k < m → suc k < suc m
    more k m h = omega arith

    less : (k m : ℕ) → suc k < suc m → k < m
    less k m h = omega arith

    apart : same_values o.name n ≡ false → ((i : ℕ) → i < length os → name_at os i ≢ n) → (i : ℕ) → i < suc (length os) → name_at (o ∷ os) i ≢ n
    apart e h zero lt q = differ (subst (λ m. same_values m n ≡ false) q e)
      where
        itself : (xs : List ℕ) → same_values xs xs ≡ true
        itself xs = same_values-itself xs

        differ : same_values n n ≡ false → ⊥
        differ f = absurd (false≢true (sym f ∙ itself n))
    apart e h (suc i) lt q = h i (less i (length os) lt) q

    by : (b : Bool) → same_values o.name n ≡ b → (place_of os n < length os) ⊎ ((i : ℕ) → i < length os → name_at os i ≢ n) →
        (cond b 0 (suc (place_of os n)) < suc (length os)) ⊎ ((i : ℕ) → i < suc (length os) → name_at (o ∷ os) i ≢ n)
    by true e r = inl (some (length os))
    by false e (inl lt) = inl (more (place_of os n) (length os) lt)
    by false e (inr h) = inr (apart e h)

pub place_absent : (os : List OpValue) (n : List ℕ) → ((i : ℕ) → i < length os → name_at os i ≢ n) → place_of os n ≡ length os
place_absent [] n h = refl
place_absent (o ∷ os) n h = by (same_values o.name n) refl (place_absent os n (λ i lt. h (suc i) (more i (length os) lt)))
  where
    more : (k m : ℕ) → k < m → suc k < suc m
    more k m h = omega arith

    some : (k : ℕ) → 0 < suc k
    some k = omega arith

    by : (b : Bool) → same_values o.name n ≡ b → place_of os n ≡ length os → cond b 0 (suc (place_of os n)) ≡ suc (length os)
    by true e ih = absurd (h 0 (some (length os)) (same_values-equal o.name n e))
    by false e ih = ap suc ih

-- operators in site order

by_place : (P : Factor → Type 0) (f : Factor) (gs : List Factor) → P f → AllOf P gs → AllOf P (place f gs)
by_place P f [] p a = (p, tt)
by_place P f (g ∷ gs) p a = go (nat_lt g.site f.site) (by_place P f gs p a.1)
  where
    go : (b : Bool) → AllOf P (place f gs) → AllOf P (cond b (g ∷ place f gs) (f ∷ g ∷ gs))
    go true ih = (a.0, ih)
    go false ih = (p, a)

by_sort : (P : Factor → Type 0) (fs : List Factor) → AllOf P fs → AllOf P (in_site_order fs)
by_sort P [] a = tt
by_sort P (f ∷ fs) a = by_place P f (in_site_order fs) a.0 (by_sort P fs a.1)

length_place : (f : Factor) (gs : List Factor) → length (place f gs) ≡ suc (length gs)
length_place f [] = refl
length_place f (g ∷ gs) = go (nat_lt g.site f.site) (length_place f gs)
  where
    go : (b : Bool) → length (place f gs) ≡ suc (length gs) → length (cond b (g ∷ place f gs) (f ∷ g ∷ gs)) ≡ suc (suc (length gs))
    go true ih = ap suc ih
    go false ih = refl

length_sort : (fs : List Factor) → length (in_site_order fs) ≡ length fs
length_sort [] = refl
length_sort (f ∷ fs) = length_place f (in_site_order fs) ∙ ap suc (length_sort fs)

by_after : (P : Factor → Type 0) (j : ℕ) (fs : List Factor) → AllOf P fs → AllOf P (after j fs)
by_after P j [] a = tt
by_after P j (f ∷ fs) a = go (nat_lt j f.site) (by_after P j fs a.1)
  where
    go : (b : Bool) → AllOf P (after j fs) → AllOf P (cond b (f ∷ after j fs) (after j fs))
    go true ih = (a.0, ih)
    go false ih = ih

length_after : (j : ℕ) (fs : List Factor) → length (after j fs) ≤ length fs
length_after j [] = omega arith
length_after j (f ∷ fs) = go (nat_lt j f.site) (length_after j fs)
  where
    up : (m n : ℕ) → m ≤ n → suc m ≤ suc n
    up m n h = omega arith

    wide : (m n : ℕ) → m ≤ n → m ≤ suc n
    wide m n h = omega arith

    go : (b : Bool) → length (after j fs) ≤ length fs → length (cond b (f ∷ after j fs) (after j fs)) ≤ suc (length fs)
    go true ih = up (length (after j fs)) (length fs) ih
    go false ih = wide (length (after j fs)) (length fs) ih

-- what is still to come is of the sum too
pub after_known : (v : SumValue) (j : ℕ) (fs : List Factor) → AreTermOf v fs → AreTermOf v (after j fs)
after_known v j fs h = record {
  few = omega (arith, h.few, length_after j fs);
  known = all_from (IsFactorOf v) (after j fs) (by_after (IsFactorOf v) j fs (all_to (IsFactorOf v) fs h.known));
}

-- ---- terms

by_names : (ss : List SiteValue) (P : Factor → Type 0) (gs : List (ℕ × List ℕ)) → ((i : ℕ) → i < length gs → P (factor_of ss (get_or gs i (0, [])))) → AllOf P (map (factor_of ss) gs)
by_names ss P [] h = tt
by_names ss P (g ∷ gs) h = (h 0 (some (length gs)), by_names ss P gs (λ i lt. h (suc i) (more i (length gs) lt)))
  where
    some : (k : ℕ) → 0 < suc k
    some k = omega arith

    more : (k m : ℕ) → k < m → suc k < suc m
    more k m h = omega arith

name_known : (v : SumValue) (f : ℕ × List ℕ) → (0 < f.0) × (f.0 ≤ length v.sites) × (IsUnknown v.sites f → ⊥) → IsFactorOf v (factor_of v.sites f)
name_known v f h = record { site = omega (arith, h.0, h.1); op = known (place_cases (ops_for v.sites f) f.1) }
  where
    known : (place_of (ops_for v.sites f) f.1 < length (ops_for v.sites f)) ⊎ IsUnknown v.sites f → place_of (ops_for v.sites f) f.1 < length (ops_for v.sites f)
    known (inl lt) = lt
    known (inr u) = absurd (h.2 u)

charge_of_names : (v : SumValue) (gs : List (ℕ × List ℕ)) → charge_in v (map (factor_of v.sites) gs) ≡ sums.charge_of v.group v.sites gs
charge_of_names v [] = refl
charge_of_names v (g ∷ gs) = ap (sum_charge v.group (op_for v.sites g).charge) (charge_of_names v gs)

pub term_holds : (v : SumValue) → IsGroup v.group → (w : TermValue) → IsGood v.sites w.factors → sums.charge_of v.group v.sites w.factors ≡ v.flux →
    IsTermOf v (normal (sites_in v) (term_in v.sites w))
term_holds v group w good charge = record {
  known = record {
    few = omega (arith, good.few, length_sort (map (factor_of v.sites) w.factors), length-map w.factors (factor_of v.sites));
    known = all_from (IsFactorOf v) (in_site_order (map (factor_of v.sites) w.factors))
        (by_sort (IsFactorOf v) (map (factor_of v.sites) w.factors) (by_names v.sites (IsFactorOf v) w.factors (λ i lt. name_known v (get_or w.factors i (0, []))
        (good_at v.sites w.factors i (get_or w.factors i (0, [])) good lt (get_or_default w.factors i (0, []) (get_or w.factors i (0, [])) lt)))));
  };
  ordered = ordered-sort (map (factor_of v.sites) w.factors);
  charge =
      charge_sort (IsCanonical v.group) (zero_charge v.group) (sum_charge v.group) (neg_charge v.group) (charges_form_group v.group group) (op_charge v.sites) (map (factor_of v.sites) w.factors)
      ∙ charge_of_names v w.factors ∙ charge;
}

pub terms_hold : (v : SumValue) → IsSum v → All (IsTermOf v) (terms_in v)
terms_hold v h = all_from (IsTermOf v) (terms_in v) (go v.terms (λ i lt. h.good i lt) (λ i lt. h.charges i lt))
  where
    some : (k : ℕ) → 0 < suc k
    some k = omega arith

    more : (k m : ℕ) → k < m → suc k < suc m
    more k m h = omega arith

    go : (ws : List TermValue) → ((i : ℕ) → i < length ws → IsGood v.sites (term_at ws i).factors) → ((i : ℕ) → i < length ws → sums.charge_of v.group v.sites (term_at ws i).factors ≡ v.flux) →
        AllOf (IsTermOf v) (map (λ w. normal (sites_in v) (term_in v.sites w)) ws)
    go [] good charges = tt
    go (w ∷ ws) good charges = (
      term_holds v h.sites.group w (good 0 (some (length ws))) (charges 0 (some (length ws))),
      go ws (λ i lt. good (suc i) (more i (length ws) lt)) (λ i lt. charges (suc i) (more i (length ws) lt)),
    )

have_flux : (v : SumValue) (ws : List Term) → AllOf (IsTermOf v) ws → HaveFlux (zero_charge v.group) (sum_charge v.group) (op_charge v.sites) v.flux ws
have_flux v [] h = tt
have_flux v (w ∷ ws) h = (h.0.ordered, h.0.charge, have_flux v ws h.1)

pub terms_have_flux : (v : SumValue) → IsSum v → HaveFlux (zero_charge v.group) (sum_charge v.group) (op_charge v.sites) v.flux (terms_in v)
terms_have_flux v h = have_flux v (terms_in v) (all_to (IsTermOf v) (terms_in v) (terms_hold v h))

-- ---- charges

pub op_fits : (v : SumValue) → AreSites v.group v.sites → (f : Factor) → IsFactorOf v f → IsCanonical v.group (op_charge v.sites f.site f.op) × IsWithin 10000000 v.group (op_charge v.sites f.site f.op)
op_fits v h f k =
    let site = h.sites f.site no_site k.site in
    let on = site.ops f.op no_operator k.op in
    let same : (op_at (site_at v.sites f.site).ops f.op).group ≡ v.group = on.group ∙ h.groups f.site no_site k.site in
    (subst (λ gs. IsCanonical gs (op_charge v.sites f.site f.op)) same on.operator.canonical, subst (λ gs. IsWithin 10000000 gs (op_charge v.sites f.site f.op)) same on.operator.within)

charge_fits : (v : SumValue) → AreSites v.group v.sites → (fs : List Factor) → AllOf (IsFactorOf v) fs → IsCanonical v.group (charge_in v fs) × IsWithin (10000000 * length fs) v.group (charge_in v fs)
charge_fits v h [] a = (canonical_zero v.group h.group, within_zero (10000000 * 0) v.group)
charge_fits v h (f ∷ fs) a =
    let op = op_fits v h f a.0 in
    let ih = charge_fits v h fs a.1 in (
      canonical_sum v.group (op_charge v.sites f.site f.op) (charge_in v fs) h.group,
      within_more (10000000 + 10000000 * length fs) (10000000 * suc (length fs)) v.group (charge_in v (f ∷ fs)) (same (length fs))
          (within_sum 10000000 (10000000 * length fs) v.group (op_charge v.sites f.site f.op) (charge_in v fs) op.1 ih.1),
    )
  where
    same : (n : ℕ) → 10000000 + 10000000 * n ≤ 10000000 * suc n
    same n = omega arith

-- the charge of a list of a term is of the group, and small
pub list_fits : (v : SumValue) → AreSites v.group v.sites → (fs : List Factor) → AreTermOf v fs → IsCanonical v.group (charge_in v fs) × IsWithin 320000000 v.group (charge_in v fs)
list_fits v h fs a =
    let r = charge_fits v h fs (all_to (IsFactorOf v) fs a.known) in
    (r.0, within_more (10000000 * length fs) 320000000 v.group (charge_in v fs) (small (length fs) a.few) r.1)
  where
    small : (n : ℕ) → n ≤ 32 → 10000000 * n ≤ 320000000
    small n h = omega arith

-- the flux is small, as it is the charge of a term
pub flux_fits : (v : SumValue) → IsSum v → IsCanonical v.group v.flux × IsWithin 320000000 v.group v.flux
flux_fits v h =
    let some : 0 < length v.terms = some_terms v.terms h.count in
    let w = normal (sites_in v) (term_in v.sites (get_or v.terms 0 no_term)) in
    let t = term_holds v h.sites.group (get_or v.terms 0 no_term) (h.good 0 some) (h.charges 0 some) in
    let fits = list_fits v h.sites w.factors t.known in
    (h.flux.canonical, subst (IsWithin 320000000 v.group) t.charge fits.1)

pub stage_of_list : (v : SumValue) (fs : List Factor) → AreTermOf v fs → IsStageOf v (to_come fs)
stage_of_list v [] h = tt
stage_of_list v (f ∷ fs) h = h

-- the charge of a state is one of a leg
pub stage_fits : (v : SumValue) → IsSum v → (q : Stage) → IsStageOf v q → IsCanonical v.group (state_charge v q) × IsWithin 640000000 v.group (state_charge v q)
stage_fits v h not_begun s = (canonical_zero v.group h.sites.group, within_zero 640000000 v.group)
stage_fits v h (rest fs) s =
    let list = list_fits v h.sites fs s in
    let flux = flux_fits v h in (
      canonical_sum v.group v.flux (neg_charge v.group (charge_in v fs)) h.sites.group,
      within_sum 320000000 320000000 v.group v.flux (neg_charge v.group (charge_in v fs)) flux.1 (within_neg 320000000 v.group (charge_in v fs) list.1),
    )
stage_fits v h done s = let flux = flux_fits v h in (flux.0, within_more 320000000 640000000 v.group v.flux (omega arith) flux.1)

-- the charge of a list that is computed as flux minus charge, whatever the list
pub charge_to_come : (v : SumValue) → IsSum v → (fs : List Factor) → sum_charge v.group v.flux (neg_charge v.group (charge_in v fs)) ≡ state_charge v (to_come fs)
charge_to_come v h [] =
    ap (sum_charge v.group v.flux) (neg_of_zero v.group h.sites.group) ∙ commutative_charge v.group v.flux (zero_charge v.group) ∙ zero_is_neutral v.group v.flux h.flux.canonical
charge_to_come v h (f ∷ fs) = refl

pub list_known : (v : SumValue) (fs : List Factor) → IsStageOf v (to_come fs) → AreTermOf v fs
list_known v [] h = record { few = omega arith; known = all_from (IsFactorOf v) [] tt }
list_known v (f ∷ fs) h = h

-- the stages of a term of the sum
pub next_known : (v : SumValue) (j : ℕ) (fs : List Factor) → AreTermOf v fs → IsStageOf v (next j fs)
next_known v j fs h = stage_of_list v (after j fs) (after_known v j fs h)

pub term_stage_known : (v : SumValue) (j : ℕ) (fs : List Factor) → AreTermOf v fs → IsStageOf v (stage j fs)
term_stage_known v j fs h = go (nat_lt j (begin fs))
  where
    go : (b : Bool) → IsStageOf v (cond b not_begun (next j fs))
    go true = tt
    go false = next_known v j fs h
