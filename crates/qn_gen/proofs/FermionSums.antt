-- The generated sum has no fault.
use Rattle.std.proofs.Common.{◌≡◌, ◌∙◌, sym, refl, ap, subst, ℕ, zero, suc, ◌+◌, ◌*◌, ◌-◌, ◌<◌, ◌≤◌, ◌⊎◌, inl, inr, pos, List, [], ◌∷◌, map, arith, length, get_or, codes, length-append}
use Rattle.std.proofs.lemmas.List.FromFn.{get_or-map-range_with_len, length-map-range_with_len}
use Rattle.std.proofs.lemmas.List.Elements.{All-append, All-from_get_or, All-get_or}
use Rattle.std.specs.List.{All, flat_map, range_with_len}
use Rattle.qn_charge.specs.declared.factor.Factor.{Factor}
use Rattle.qn_charge.specs.Firsts.{HasNone}
use Rattle.qn_sites.specs.Kinds.{fermion, kind_site}
use Rattle.qn_sites.specs.Operators.{OpValue}
use Rattle.qn_sites.specs.Refusals.{IsKindOf}
use Rattle.qn_sites.specs.Sites.{SiteValue, name_at}
use Rattle.qn_opsum.specs.declared.fault.SumFault.{SumFault}
use Rattle.qn_opsum.specs.declared.fault.SumFault.TheVariants.{TermCount, SiteRange, UnknownOp, MixedFlux, Memory}
use Rattle.qn_opsum.specs.Sums.{TermValue, charge_of, no_site, no_term, op_at, op_for, ops_for, place_of, term_at}
use Rattle.qn_opsum.specs.Refusals.{BadName, BadSite, IsFirstTermFault, IsGood, IsSumFault, IsTermFault, IsUnknown}
use Rattle.qn_gen.specs.Workload.{density, group, hop, hops, sites, terms}

-- ---- the kind of the sites

pub fermion_known : (fs : List Factor) → fs ≡ group → IsKindOf (codes "fermion") fs fermion
fermion_known fs p = record { listed = (1, omega arith, refl); name = refl; group = sym p }

-- ---- the sites

pub length_sites : (n : ℕ) → length (sites n) ≡ n
length_sites n = length-map-range_with_len (λ j. kind_site fermion) 1 n

pub site_is : (n k : ℕ) (d : SiteValue) → k < n → get_or (sites n) k d ≡ kind_site fermion
site_is n k d lt = get_or-map-range_with_len (λ j. kind_site fermion) 1 n k (1 + k) d lt refl

pub groups_of : (n : ℕ) (fs : List Factor) → fs ≡ group → All (λ (s : SiteValue). s.group ≡ fs) (sites n)
groups_of n fs p =
    All-from_get_or (λ (s : SiteValue). s.group ≡ fs) (sites n) no_site (λ k lt. ap (λ (s : SiteValue). s.group) (site_is n k no_site (omega (arith, lt, length_sites n))) ∙ sym p)

abbrev fermion_ops : List OpValue
fermion_ops = (kind_site fermion).ops

-- an operator of a term stands on a site
abbrev IsOnSite : ℕ → ℕ → Type 0
IsOnSite n j = (0 < j) × (j ≤ n)

ops_are : (n j : ℕ) (name : List ℕ) → IsOnSite n j → ops_for (sites n) (j, name) ≡ fermion_ops
ops_are n j name on = ap (λ (s : SiteValue). s.ops) (site_is n (j - 1) no_site (omega (arith, on.0, on.1)))

not_unknown : (n j : ℕ) (name : List ℕ) (i : ℕ) → IsOnSite n j → i < length fermion_ops → name_at fermion_ops i ≡ name → IsUnknown (sites n) (j, name) → ⊥
not_unknown n j name i on lt is unknown =
    let e = ops_are n j name on in
    unknown i (subst (λ (os : List OpValue). i < length os) (sym e) lt) (ap (λ os. name_at os i) e ∙ is)

charge_is : (n j : ℕ) (name : List ℕ) → IsOnSite n j → (op_for (sites n) (j, name)).charge ≡ (op_at fermion_ops (place_of fermion_ops name)).charge
charge_is n j name on = ap (λ (os : List OpValue). (op_at os (place_of os name)).charge) (ops_are n j name on)

not_bad : (n j : ℕ) → IsOnSite n j → (j ≡ 0) ⊎ (length (sites n) < j) → ⊥
not_bad n j on (inl none) = omega (arith, on.0, none)
not_bad n j on (inr past) = omega (arith, on.1, past, length_sites n)

-- ---- the terms

-- a good term whose charge is 0
pub record IsFine (n : ℕ) (w : TermValue) : Type 0 where
  pub good : IsGood (sites n) w.factors
  pub charge : charge_of group (sites n) w.factors ≡ pos 0 ∷ []

hop_fine : (n j k : ℕ) → IsOnSite n j → IsOnSite n k → IsFine n (hop j k)
hop_fine n j k p q = record {
  good = record { few = omega arith; sites = bad_site; names = bad_name };
  charge = let a = charge_is n j (codes "Cdag") p in let b = charge_is n k (codes "C") q in rw (a, b) refl;
}
  where
    bad_site : HasNone (BadSite (length (sites n)) (hop j k).factors)
    bad_site zero b = not_bad n j p b.1
    bad_site (suc zero) b = not_bad n k q b.1
    bad_site (suc (suc i)) b = absurd (omega (arith, b.0))

    bad_name : HasNone (BadName (sites n) (hop j k).factors)
    bad_name zero b = not_unknown n j (codes "Cdag") 1 p (omega arith) refl b.1
    bad_name (suc zero) b = not_unknown n k (codes "C") 0 q (omega arith) refl b.1
    bad_name (suc (suc i)) b = absurd (omega (arith, b.0))

density_fine : (seed n j : ℕ) → IsOnSite n j → IsFine n (density seed j)
density_fine seed n j p = record {
  good = record { few = omega arith; sites = bad_site; names = bad_name };
  charge = let a = charge_is n j (codes "N") p in rw a refl;
}
  where
    bad_site : HasNone (BadSite (length (sites n)) (density seed j).factors)
    bad_site zero b = not_bad n j p b.1
    bad_site (suc i) b = absurd (omega (arith, b.0))

    bad_name : HasNone (BadName (sites n) (density seed j).factors)
    bad_name zero b = not_unknown n j (codes "N") 3 p (omega arith) refl b.1
    bad_name (suc i) b = absurd (omega (arith, b.0))

-- all terms from a site on
hops_fine : (n a k : ℕ) → 0 < a → a + k ≤ n → All (IsFine n) (flat_map hops (range_with_len a k))
hops_fine n a zero some le i d lt = absurd (omega (arith, lt))
hops_fine n a (suc k) some le zero d lt = hop_fine n a (a + 1) (some, omega (arith, le)) (omega arith, omega (arith, le))
hops_fine n a (suc k) some le (suc zero) d lt = hop_fine n (a + 1) a (omega arith, omega (arith, le)) (some, omega (arith, le))
hops_fine n a (suc k) some le (suc (suc i)) d lt = hops_fine n (a + 1) k (omega arith) (omega (arith, le)) i d (omega (arith, lt))

densities_fine : (seed n a k : ℕ) → 0 < a → a + k ≤ n + 1 → All (IsFine n) (map (density seed) (range_with_len a k))
densities_fine seed n a zero some le i d lt = absurd (omega (arith, lt))
densities_fine seed n a (suc k) some le zero d lt = density_fine seed n a (some, omega (arith, le))
densities_fine seed n a (suc k) some le (suc i) d lt = densities_fine seed n (a + 1) k (omega arith) (omega (arith, le)) i d (omega (arith, lt))

pub terms_fine : (seed n : ℕ) → 0 < n → All (IsFine n) (terms seed n)
terms_fine seed n some =
    All-append (IsFine n) (flat_map hops (range_with_len 1 (n - 1))) (map (density seed) (range_with_len 1 n)) (hops_fine n 1 (n - 1) (omega arith) (omega (arith, some))) (densities_fine seed n 1 n (omega arith) (omega arith))

length_hops : (a k : ℕ) → length (flat_map hops (range_with_len a k)) ≡ 2 * k
length_hops a zero = refl
length_hops a (suc k) = omega (arith, length_hops (a + 1) k)

pub length_terms : (seed n : ℕ) → length (terms seed n) ≡ 2 * (n - 1) + n
length_terms seed n =
    omega (arith, length-append (flat_map hops (range_with_len 1 (n - 1))) (map (density seed) (range_with_len 1 n)), length_hops 1 (n - 1), length-map-range_with_len (density seed) 1 n)

pub fine_at : (seed n i : ℕ) → 0 < n → i < length (terms seed n) → IsFine n (term_at (terms seed n) i)
fine_at seed n i some lt = All-get_or (IsFine n) (terms seed n) i no_term lt (terms_fine seed n some)

-- ---- no fault

pub not_good : (ss : List SiteValue) (gs : List (ℕ × List ℕ)) (t : ℕ) (e : SumFault) → IsTermFault ss gs t e → IsGood ss gs → ⊥
not_good ss gs t TermCount p g = p
not_good ss gs t (SiteRange u zero) p g = omega (arith, p.1, g.few)
not_good ss gs t (SiteRange u (suc i)) p g = g.sites i p.2.here
not_good ss gs t (UnknownOp u zero) p g = p
not_good ss gs t (UnknownOp u (suc i)) p g = g.names i p.3.here
not_good ss gs t (MixedFlux u) p g = p
not_good ss gs t Memory p g = p

no_term_fault : (seed n : ℕ) (e : SumFault) → 0 < n → IsFirstTermFault (sites n) (terms seed n) e → ⊥
no_term_fault seed n e some p = not_good (sites n) (term_at (terms seed n) p.term).factors p.term e p.fault (fine_at seed n p.term some p.within).good

no_bad_count : (seed n : ℕ) → 0 < n → n ≤ 64 → (length (terms seed n) ≡ 0) ⊎ (2000 < length (terms seed n)) → ⊥
no_bad_count seed n some few (inl none) = omega (arith, length_terms seed n, none, some)
no_bad_count seed n some few (inr many) = omega (arith, length_terms seed n, many, few)

pub no_sum_fault : (seed n : ℕ) (e : SumFault) → 0 < n → n ≤ 64 → IsSumFault group (sites n) (terms seed n) e → ⊥
no_sum_fault seed n TermCount some few p = no_bad_count seed n some few p
no_sum_fault seed n (SiteRange t i) some few p = no_term_fault seed n (SiteRange t i) some p.1
no_sum_fault seed n (UnknownOp t i) some few p = no_term_fault seed n (UnknownOp t i) some p.1
no_sum_fault seed n (MixedFlux t) some few p =
    p.2.here.1 ((fine_at seed n t some p.2.here.0).charge ∙ sym (fine_at seed n 0 some (omega (arith, p.2.here.0))).charge)
no_sum_fault seed n Memory some few p = p

-- the same of lists that are known to be these
pub no_fault_of : (seed n : ℕ) (e : SumFault) (fs : List Factor) (ss : List SiteValue) (ws : List TermValue) → fs ≡ group → ss ≡ sites n → ws ≡ terms seed n → 0 < n → n ≤ 64 → IsSumFault fs ss ws e → ⊥
no_fault_of seed n e fs ss ws p q r some few fault =
    no_sum_fault seed n e some few
    (subst (λ (gs : List Factor). IsSumFault gs (sites n) (terms seed n) e) p
    (subst (λ (ts : List SiteValue). IsSumFault fs ts (terms seed n) e) q
    (subst (λ (us : List TermValue). IsSumFault fs ss us e) r fault)))

-- the flux is 0
pub flux_is : (seed n : ℕ) (fs : List Factor) (ss : List SiteValue) (ws : List TermValue) → fs ≡ group → ss ≡ sites n → ws ≡ terms seed n → 0 < n → charge_of fs ss (term_at ws 0).factors ≡ pos 0 ∷ []
flux_is seed n fs ss ws p q r some =
    let fine = fine_at seed n 0 some (omega (arith, length_terms seed n, some)) in
    ap (λ (gs : List Factor). charge_of gs ss (term_at ws 0).factors) p
    ∙ (ap (λ (ts : List SiteValue). charge_of group ts (term_at ws 0).factors) q
    ∙ (ap (λ (us : List TermValue). charge_of group (sites n) (term_at us 0).factors) r
    ∙ fine.charge))
