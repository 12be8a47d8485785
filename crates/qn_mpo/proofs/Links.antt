-- Links as the program makes them.
use Rattle.std.proofs.Common.{◌≡◌, ℕ, ℤ, zero, suc, ◌+◌, ◌-◌, ◌^◌, ◌<◌, ◌≤◌, ◌⊎◌, inl, inr, List, [], ◌∷◌, ◌++◌, length, get_or, drop, map, reverse, refl, sym, ◌∙◌, ap, subst, arith}
use Rattle.std.specs.List.{All}
use Rattle.std.specs.List.Sorted.{IsPermutation, IsSortedBy}
use Rattle.std.specs.Cmp.{IsStrictWeakOrder}
use Rattle.std.proofs.lemmas.Bool.{cases_lt}
use Rattle.std.proofs.lemmas.List.{reverse-append, reverse-reverse, length-map}
use Rattle.std.proofs.lemmas.List.Sorted.{All-permutation, IsPermutation-reverse, sorted_far}
use Rattle.qn_charge.specs.declared.factor.Factor as charge
use Rattle.qn_charge.specs.Firsts.{OutOfRange}
use Rattle.qn_charge.specs.Charges.{IsCanonical, IsWithin}
use Rattle.qn_charge.specs.Laws.{none_out_of_range, within_more}
use Rattle.qn_index.specs.Legs.{SectorValue, before, no_sector, sector_at, total}
use Rattle.qn_index.specs.Refusals.{IsFirstLegFault}
use Rattle.qn_index.specs.declared.leg.LegFault.{LegFault}
use Rattle.qn_index.specs.declared.leg.LegFault.TheVariants.{ChargeRange, DimRange, NoSector, TooManySectors}
use Rattle.qn_opsum.specs.Sums.{SumValue, TermValue}
use Rattle.qn_opsum.specs.Refusals.{IsSum}
use Rattle.qn_opsum.proofs.Lookups.{some_terms}
use Rattle.qn_auto.specs.Automaton.{Stage, Term, normal, stage, stages}
use Rattle.qn_auto.specs.LinkOrder.{IsStrict, is_next, pushed, sectors_of, squeeze}
use Rattle.qn_auto.specs.SumAutomaton.{charge_lower, link_leg, state_charge, sites_in, state_lower, states, term_in, terms_in}
use Rattle.qn_auto.specs.Terms.{IsStageOf, IsTermOf}
use Rattle.qn_auto.proofs.ChargeOrder.{charge_strict, dims_below, length_stages, sector_charges, sector_some, sector_total, some_stages}
use Rattle.qn_auto.proofs.LinkOrderLaws.{kind_itself, kind_total, kind_trans, lexical_itself, lexical_total, lexical_trans, stages_ascend}
use Rattle.qn_auto.proofs.Ordered.{In, all_from, all_to, link_from_sorted, rising_from, stages_from, strict_weak}
use Rattle.qn_auto.proofs.Stages.{AllOf}
use Rattle.qn_auto.proofs.Terms.{stage_fits, term_stage_known, terms_hold}
use Rattle.qn_auto.specs.LinkOrder.{kind_lower}
use Rattle.qn_mpo.specs.States.{StateValue, charges, value_lower, with_charge}
use Rattle.qn_index.proofs.Sectors.{before_le}

-- ---- the order of states

pub value_strict : IsStrict value_lower
value_strict = record {
  itself = λ a. lexical_itself charge_lower charge_strict a.charge (kind_lower a.stage a.stage) (kind_itself a.stage);
  trans = λ a b c d e. lexical_trans charge_lower charge_strict a.charge b.charge c.charge (kind_lower a.stage b.stage) (kind_lower b.stage c.stage) (kind_lower a.stage c.stage) (kind_trans a.stage b.stage c.stage) d e;
  total = λ a b d e.
      let t = lexical_total charge_lower charge_strict a.charge b.charge (kind_lower a.stage b.stage) (kind_lower b.stage a.stage) d e in
      let p = t.0 in
      let q = kind_total a.stage b.stage t.1 t.2 in
      λ i. record { charge = p i; stage = q i };
}

pub value_weak : IsStrictWeakOrder value_lower
value_weak = strict_weak value_lower value_strict

-- ---- equal states once

pub next_last : (out : List StateValue) (x y : StateValue) → 0 < length out → y ≡ get_or out (length out - 1) y → is_next value_lower out x ≡ value_lower y x
next_last [] x y lt e = absurd (none lt)
  where
    none : 0 < 0 → ⊥
    none h = omega arith
next_last (z ∷ []) x y lt e = ap (λ w. value_lower w x) (sym e)
next_last (z ∷ w ∷ ws) x y lt e =
    next_last (w ∷ ws) x y (some (length ws)) (e ∙ (ap (λ k. get_or (z ∷ w ∷ ws) k y) (one (suc (length ws))) ∙ ap (λ k. get_or (w ∷ ws) k y) (sym (one (length ws)))))
  where
    some : (n : ℕ) → 0 < suc n
    some n = omega arith

    one : (n : ℕ) → suc n - 1 ≡ n
    one n = omega arith

pub squeeze_step : (out new old rest : List StateValue) (x : StateValue) → old ≡ rest ++ (x ∷ []) → new ≡ pushed value_lower out x →
    squeeze value_lower new (reverse rest) ≡ squeeze value_lower out (reverse old)
squeeze_step out new old rest x e n =
    ap (λ zs. squeeze value_lower zs (reverse rest)) n ∙ ap (squeeze value_lower out) (sym (ap reverse e ∙ reverse-append rest (x ∷ [])))

-- the states of a link
pub link_is : (v : SumValue) (j : ℕ) (raw sorted made : List StateValue) → raw ≡ map (λ w. with_charge v (stage j w.factors)) (terms_in v) → IsPermutation raw sorted → IsSortedBy value_lower sorted →
    made ≡ squeeze value_lower [] sorted → made ≡ map (with_charge v) (states v j)
link_is v j raw sorted made e perm up m =
    m ∙ link_from_sorted value_lower value_strict (with_charge v) (terms_in v) j sorted (stages_ascend charge_lower charge_strict (state_charge v) (terms_in v) j)
    (subst (λ xs. IsPermutation xs sorted) e perm) (rising_from value_lower sorted (λ i k d lt h. sorted_far value_lower value_weak sorted up i k d (less i k lt) h))
  where
    less : (i k : ℕ) → i < k → i ≤ k
    less i k h = omega arith

-- ---- sectors, in reversed order

pub dims_fit : (qs : List (List ℤ)) (xs : List SectorValue) → length qs ≤ 2000 → reverse xs ≡ sectors_of charge_lower qs → All (λ (s : SectorValue). s.dim ≤ 4000000) xs
dims_fit qs xs h e =
    subst (All (λ (s : SectorValue). s.dim ≤ 4000000)) (reverse-reverse xs)
    (All-permutation (λ (s : SectorValue). s.dim ≤ 4000000) (reverse xs) (reverse (reverse xs)) (IsPermutation-reverse (reverse xs))
    (subst (All (λ (s : SectorValue). s.dim ≤ 4000000)) (sym e) (all_from (λ (s : SectorValue). s.dim ≤ 4000000) (sectors_of charge_lower qs) (wider (sectors_of charge_lower qs) (total (sectors_of charge_lower qs)) (small (total (sectors_of charge_lower qs)) (length qs) (sector_total charge_lower qs) h) (dims_below (sectors_of charge_lower qs))))))
  where
    small : (t n : ℕ) → t ≡ n → n ≤ 2000 → t ≤ 4000000
    small t n e h = omega arith

    further : (d t : ℕ) → d ≤ t → t ≤ 4000000 → d ≤ 4000000
    further d t h k = omega arith

    wider : (ss : List SectorValue) (t : ℕ) → t ≤ 4000000 → AllOf (λ (s : SectorValue). s.dim ≤ t) ss → AllOf (λ (s : SectorValue). s.dim ≤ 4000000) ss
    wider [] t k a = tt
    wider (s ∷ ss) t k a = (further s.dim t a.0 k, wider ss t k a.1)

pub drop_at : {A : Type 0} (xs : List A) (k : ℕ) (x : A) → k < length xs → x ≡ get_or xs k x → drop k xs ≡ x ∷ drop (suc k) xs
drop_at [] k x lt e = absurd (none k lt)
  where
    none : (k : ℕ) → k < 0 → ⊥
    none k h = omega arith
drop_at (y ∷ ys) zero x lt e = ap (λ z. z ∷ ys) (sym e)
drop_at (y ∷ ys) (suc k) x lt e = drop_at ys k x (less k (length ys) lt) e
  where
    less : (k n : ℕ) → suc k < suc n → k < n
    less k n h = omega arith

-- the charges of states from a place on are few
pub few_left : (ss : List StateValue) (i : ℕ) → length ss ≤ 2000 → length (charges (drop i ss)) ≤ 2000
few_left [] zero h = h
few_left [] (suc i) h = h
few_left (s ∷ ss) zero h = omega (arith, h, length-map ss (λ (t : StateValue). t.charge))
few_left (s ∷ ss) (suc i) h = few_left ss i (less (length ss) h)
  where
    less : (n : ℕ) → suc n ≤ 2000 → n ≤ 2000
    less n h = omega arith

-- ---- the leg of a link

-- what each state of a link is
pub states_known : (v : SumValue) → IsSum v → (j : ℕ) → AllOf (IsStageOf v) (states v j)
states_known v h j = from (states v j) (λ q i. i)
  where
    term_known : (ws : List Term) (q : Stage) → AllOf (IsTermOf v) ws → In q (map (λ w. stage j w.factors) ws) → IsStageOf v q
    term_known [] q a i = absurd i
    term_known (w ∷ ws) q a (inl e) = subst (IsStageOf v) (sym e) (term_stage_known v j w.factors a.0.known)
    term_known (w ∷ ws) q a (inr i) = term_known ws q a.1 i

    from : (qs : List Stage) → ((q : Stage) → In q qs → In q (states v j)) → AllOf (IsStageOf v) qs
    from [] f = tt
    from (q ∷ qs) f = (term_known (terms_in v) q (all_to (IsTermOf v) (terms_in v) (terms_hold v h)) (stages_from (state_lower v) j q (terms_in v) (f q (inl refl))), from qs (λ r i. f r (inr i)))

abbrev pub Fits : SumValue → List ℤ → Type 0
Fits v q = IsCanonical v.group q × IsWithin 1000000000 v.group q

charges_fit : (v : SumValue) → IsSum v → (qs : List Stage) → AllOf (IsStageOf v) qs → AllOf (Fits v) (map (state_charge v) qs)
charges_fit v h [] a = tt
charges_fit v h (q ∷ qs) a =
    let f = stage_fits v h q a.0 in
    ((f.0, within_more 640000000 1000000000 v.group (state_charge v q) (omega arith) f.1), charges_fit v h qs a.1)

pub link_charges : (v : SumValue) → IsSum v → (j : ℕ) → AllOf (λ (s : SectorValue). Fits v s.charge) (link_leg v j).sectors
link_charges v h j = sector_charges charge_lower (Fits v) (map (state_charge v) (states v j)) (charges_fit v h (states v j) (states_known v h j))

pub few_states : (v : SumValue) → IsSum v → (j : ℕ) → length (states v j) ≤ 2000
few_states v h j = by (cases_lt 2000 (length v.terms))
  where
    many : length (states v j) ≤ length v.terms
    many = omega (arith, length_stages (state_lower v) (terms_in v) j, length-map v.terms (λ w. normal (sites_in v) (term_in v.sites w)))

    by : (2000 < length v.terms) ⊎ (length v.terms ≤ 2000) → length (states v j) ≤ 2000
    by (inl lt) = absurd (h.count (inr lt))
    by (inr le) = omega (arith, many, le)

pub link_total : (v : SumValue) (j : ℕ) → total (link_leg v j).sectors ≡ length (states v j)
link_total v j = sector_total charge_lower (map (state_charge v) (states v j)) ∙ length-map (states v j) (state_charge v)

pub some_values : (v : SumValue) → IsSum v → (j : ℕ) → 0 < total (link_leg v j).sectors
some_values v h j = omega (arith, link_total v j, go v.terms (some_terms v.terms h.count))
  where
    none : 0 < 0 → ⊥
    none h = omega arith

    go : (ws : List TermValue) → 0 < length ws → 0 < length (stages (state_lower v) (map (λ w. normal (sites_in v) (term_in v.sites w)) ws) j)
    go [] lt = absurd (none lt)
    go (w ∷ ws) lt = some_stages (state_lower v) (normal (sites_in v) (term_in v.sites w)) (map (λ w. normal (sites_in v) (term_in v.sites w)) ws) j

-- the sectors of a link make a leg unless there are more than 64
pub leg_fault : (v : SumValue) → IsSum v → (j : ℕ) (gs : List charge.Factor) (ps : List SectorValue) (e : LegFault) → gs ≡ v.group → ps ≡ (link_leg v j).sectors → IsFirstLegFault gs ps e → 64 < length (link_leg v j).sectors
leg_fault v h j gs ps e eg ep f = by e (subst (λ xs. IsFirstLegFault v.group xs e) ep (subst (λ hs. IsFirstLegFault hs ps e) eg f))
  where
    qs : List SectorValue
    qs = (link_leg v j).sectors

    small : total qs ≤ 2000
    small = omega (arith, link_total v j, few_states v h j)

    dim_of : (i : ℕ) → i < length qs → (0 < (sector_at qs i).dim) × ((sector_at qs i).dim ≤ total qs)
    dim_of i lt = (
      all_from (λ (s : SectorValue). 0 < s.dim) qs (sector_some charge_lower (map (state_charge v) (states v j))) i no_sector lt,
      all_from (λ (s : SectorValue). s.dim ≤ total qs) qs (dims_below qs) i no_sector lt,
    )

    bad_dim : (i : ℕ) → (i < length qs) × (((sector_at qs i).dim ≡ 0) ⊎ (65536 < (sector_at qs i).dim) ⊎ (2 ^ 20 < before qs (i + 1))) → ⊥
    bad_dim i (lt, inl z) = let d = dim_of i lt in omega (arith, d.0, z)
    bad_dim i (lt, inr (inl z)) = let d = dim_of i lt in omega (arith, d.1, z, small)
    bad_dim i (lt, inr (inr z)) = omega (arith, before_le qs (i + 1), z, small)

    bad_charge : (i : ℕ) → (i < length qs) × ((k : ℕ) × OutOfRange 1000000000 v.group (sector_at qs i).charge k) → ⊥
    bad_charge i b =
        let fits = all_from (λ (s : SectorValue). Fits v s.charge) qs (link_charges v h j) i no_sector b.0 in
        none_out_of_range 1000000000 v.group (sector_at qs i).charge fits.0 fits.1 b.1.0 b.1.1

    none_left : (ss : List SectorValue) → length ss ≡ 0 → total ss ≡ 0
    none_left [] z = refl
    none_left (s ∷ ss) z = absurd (never (length ss) z)
      where
        never : (n : ℕ) → suc n ≡ 0 → ⊥
        never n z = omega arith

    by : (e : LegFault) → IsFirstLegFault v.group qs e → 64 < length qs
    by (ChargeRange i) g = absurd (bad_charge i g.here)
    by (DimRange i) g = absurd (bad_dim i g.1.here)
    by NoSector g = let z = none_left qs g.2 in let s = some_values v h j in absurd (omega (arith, z, s))
    by TooManySectors g = g.2

-- the charges of states with their charges
pub charges_are : (v : SumValue) (qs : List Stage) → charges (map (with_charge v) qs) ≡ map (state_charge v) qs
charges_are v [] = refl
charges_are v (q ∷ qs) = ap (λ zs. state_charge v q ∷ zs) (charges_are v qs)

-- the sectors that are made are those of the link
pub sectors_are : (v : SumValue) (j : ℕ) (ss : List StateValue) (ps : List SectorValue) → ss ≡ map (with_charge v) (states v j) → ps ≡ sectors_of charge_lower (charges ss) → ps ≡ (link_leg v j).sectors
sectors_are v j ss ps e p = p ∙ (ap (λ zs. sectors_of charge_lower (charges zs)) e ∙ ap (sectors_of charge_lower) (charges_are v (states v j)))

pub few_made : (v : SumValue) → IsSum v → (j : ℕ) (ss : List StateValue) → ss ≡ map (with_charge v) (states v j) → length ss ≤ 2000
few_made v h j ss e = omega (arith, ap length e, length-map (states v j) (with_charge v), few_states v h j)
