-- The operators that terms name, their charges and their parities.
use Rattle.std.proofs.Common.{◌≡◌, ◌≢◌, ℕ, ℤ, zero, suc, ◌+◌, ◌-◌, ◌*◌, ◌≤◌, ◌<◌, ◌&&◌, ◌⊎◌, inl, inr, List, [], ◌∷◌, length, get_or, arith, refl, ap, ◌∙◌, sym, subst, Bool, true, false, cond}
use Rattle.std.specs.Prelude.{nat_lt}
use Rattle.std.proofs.lemmas.Bool.Decides.{nat_tests}
use Rattle.std.specs.Cmp.Lexicographic.{nat_list_cmp_total, pointwise}
use Rattle.std.specs.Ordering.{int_eq}
use Rattle.std.specs.declared.cmp.Ordering.TheVariants.{Less, Equal}
use Rattle.std.proofs.lemmas.Cmp.{tied_itself}
use Rattle.std.proofs.lemmas.Bool.{cases_lt, false≢true}
use Rattle.std.proofs.lemmas.List.{get_or-map, get_or_default, get_or_past, length-map}
use Rattle.qn_sign.specs.Sign.{xor}
use Rattle.qn_gauss.specs.Gaussian.{zero_g}
use Rattle.qn_charge.specs.declared.factor.Factor.{Factor}
use Rattle.qn_charge.specs.Charges.{IsCanonical, IsGroup, IsWithin, neg_charge, parity}
use Rattle.qn_charge.specs.Charges as charges
use Rattle.qn_charge.specs.Laws.{parity_adds, parity_of_neg}
use Rattle.qn_index.specs.Legs.{charge_at, parity_at}
use Rattle.qn_value.specs.Tensors.{same_values}
use Rattle.qn_value.proofs.RowsLemmas.{same_values-itself}
use Rattle.qn_value.proofs.Values.{same_values-equal}
use Rattle.std.specs.Cmp.Rules.{signed_items}
use Rattle.qn_sites.specs.Operators.{OpValue, IsOperator, carried, element}
use Rattle.qn_sites.specs.Sites.{AreAscending, IsSite, SiteValue, name_at, names, no_operator}
use Rattle.qn_sites.proofs.Ascents.{IsBelow}
use Rattle.qn_opsum.specs.Strings.{HasParities}
use Rattle.qn_opsum.specs.Sums.{TermValue, no_site, op_at, op_for, ops_for, place_of, site_at, sites_of}
use Rattle.qn_opsum.specs.Refusals.{AreSites, BadCount, IsGood, IsUnknown, factor_at}

-- a name is not below itself
not_below : (n : List ℕ) → IsBelow n n → ⊥
not_below n e = let clash : Less ≡ Equal = sym e ∙ tied_itself nat_list_cmp_total n in absurd (cc clash)

tail_ascends : (o : OpValue) (os : List OpValue) → AreAscending (names (o ∷ os)) → AreAscending (names os)
tail_ascends o os a i j lt h = a (suc i) (suc j) (omega arith) (omega arith)

-- an operator is found by its name at its own place
pub place_is : (os : List OpValue) (i : ℕ) (n : List ℕ) → AreAscending (names os) → i < length os → name_at os i ≡ n → place_of os n ≡ i
place_is [] i n a lt e = absurd (omega arith)
place_is (o ∷ os) zero n a lt e = ap (λ b. cond b 0 (suc (place_of os n))) (same_from o.name n e)
  where
    same_from : (x y : List ℕ) → x ≡ y → same_values x y ≡ true
    same_from x y h = subst (λ z. same_values x z ≡ true) h (same_values-itself x)
place_is (o ∷ os) (suc i) n a lt e =
    ap (λ b. cond b 0 (suc (place_of os n))) (differ (same_values o.name n) refl)
    ∙ ap suc (place_is os i n (tail_ascends o os a) (omega arith) e)
  where
    below : IsBelow o.name n
    below =
        subst (λ m. IsBelow o.name m) (get_or-map (λ (p : OpValue). p.name) os i no_operator [] (omega arith) ∙ e)
        (a 0 (suc i) (omega arith) (subst (λ k. suc i < suc k) (sym (length-map os (λ (p : OpValue). p.name))) lt))

    differ : (b : Bool) → same_values o.name n ≡ b → b ≡ false
    differ false h = refl
    differ true h = absurd (not_below n (subst (λ m. IsBelow m n) (same_values-equal o.name n h) below))

-- ---- parities

same_xor : (a b : Bool) → charges.xor a b ≡ xor a b
same_xor true b = refl
same_xor false b = refl

-- an entry has the parity of its operator
pub op_parities : (fs : List Factor) (o : OpValue) (r c : ℕ) → IsOperator o → o.group ≡ fs →
    (xor (parity_at fs o.leg.sectors r) (parity_at fs o.leg.sectors c) ≡ parity fs o.charge) ⊎ (element o r c ≡ zero_g)
op_parities fs o r c h e = by (pointwise int_eq (carried fs o.leg.sectors r c) o.charge) refl
  where
    group : IsGroup fs
    group = subst IsGroup e h.group

    total_parity : parity fs (carried fs o.leg.sectors r c) ≡ xor (parity_at fs o.leg.sectors r) (parity_at fs o.leg.sectors c)
    total_parity =
        parity_adds fs (charge_at o.leg.sectors r) (neg_charge fs (charge_at o.leg.sectors c)) group
        ∙ (ap (charges.xor (parity_at fs o.leg.sectors r)) (parity_of_neg fs (charge_at o.leg.sectors c) group)
        ∙ same_xor (parity_at fs o.leg.sectors r) (parity_at fs o.leg.sectors c))

    by : (b : Bool) → pointwise int_eq (carried fs o.leg.sectors r c) o.charge ≡ b →
        (xor (parity_at fs o.leg.sectors r) (parity_at fs o.leg.sectors c) ≡ parity fs o.charge) ⊎ (element o r c ≡ zero_g)
    by true q = inl (sym total_parity ∙ ap (parity fs) ((signed_items (carried fs o.leg.sectors r c) o.charge).0 q))
    by false q = inr (h.conserves r c (λ same. false≢true (sym q ∙ (signed_items (carried fs o.leg.sectors r c) o.charge).1 (subst (λ gs. carried gs o.leg.sectors r c ≡ o.charge) e same))))

no_entry : (r c : ℕ) → element no_operator r c ≡ zero_g
no_entry r c = ap (λ b. cond (b && nat_lt c 0) (get_or [] (r * 0 + c) zero_g) zero_g) (none_below r)
  where
    none_below : (x : ℕ) → nat_lt x 0 ≡ false
    none_below x = grind (arith, nat_tests)

-- the sites of an operator sum have parities
pub has_parities : (fs : List Factor) (ss : List SiteValue) → AreSites fs ss → HasParities (sites_of fs ss)
has_parities fs ss h j k r c = by (cases_lt j (length ss))
  where
    at : ℕ → SiteValue
    at i = site_at ss i

    ops : OpValue → Type 0
    ops o = (xor (parity_at fs (site_at ss j).leg.sectors r) (parity_at fs (site_at ss j).leg.sectors c) ≡ parity fs o.charge) ⊎ (element o r c ≡ zero_g)

    inside : IsSite (site_at ss j) → (site_at ss j).group ≡ fs → (k < length (site_at ss j).ops) ⊎ (length (site_at ss j).ops ≤ k) → ops (op_at (site_at ss j).ops k)
    inside site group (inl lt) =
        let on = site.ops k no_operator lt in
        subst (λ l. (xor (parity_at fs l.sectors r) (parity_at fs l.sectors c) ≡ parity fs (op_at (site_at ss j).ops k).charge) ⊎ (element (op_at (site_at ss j).ops k) r c ≡ zero_g)) on.leg
        (op_parities fs (op_at (site_at ss j).ops k) r c on.operator (on.group ∙ group))
    inside site group (inr ge) = inr (ap (λ o. element o r c) (get_or_past (site_at ss j).ops k no_operator ge) ∙ no_entry r c)

    by : (j < length ss) ⊎ (length ss ≤ j) → ops (op_at (site_at ss j).ops k)
    by (inl lt) = inside (h.sites j no_site lt) (h.groups j no_site lt) (cases_lt k (length (site_at ss j).ops))
    by (inr ge) = inr (ap (λ s. element (op_at s.ops k) r c) (get_or_past ss j no_site ge) ∙ no_entry r c)

-- an operator that was found is the one that the term names
pub found_is : (os : List OpValue) (i : ℕ) (n : List ℕ) (o : OpValue) → AreAscending (names os) → i < length os → name_at os i ≡ n → o ≡ get_or os i o →
    (o ≡ op_at os (place_of os n)) × (place_of os n < length os)
found_is os i n o a lt e is =
    let place = place_is os i n a lt e in
    (is ∙ (get_or_default os i o no_operator lt ∙ ap (op_at os) (sym place)), subst (λ k. k < length os) (sym place) lt)

-- an operator of a good term is on one of the sites and known there
pub good_at : (ss : List SiteValue) (gs : List (ℕ × List ℕ)) (i : ℕ) (f : ℕ × List ℕ) → IsGood ss gs → i < length gs → f ≡ get_or gs i f → (0 < f.0) × (f.0 ≤ length ss) × (IsUnknown ss f → ⊥)
good_at ss gs i f h lt is =
    subst (λ x. (0 < x.0) × (x.0 ≤ length ss) × (IsUnknown ss x → ⊥)) (sym (is ∙ get_or_default gs i f (0, []) lt))
    (some (cases_lt 0 (factor_at gs i).0), within (cases_lt (length ss) (factor_at gs i).0), (λ u. h.names i (lt, u)))
  where
    some : (0 < (factor_at gs i).0) ⊎ ((factor_at gs i).0 ≤ 0) → 0 < (factor_at gs i).0
    some (inl l) = l
    some (inr l) = absurd (h.sites i (lt, inl (omega arith)))

    within : (length ss < (factor_at gs i).0) ⊎ ((factor_at gs i).0 ≤ length ss) → (factor_at gs i).0 ≤ length ss
    within (inl l) = absurd (h.sites i (lt, inr l))
    within (inr l) = l

-- the operator that a term names is one of the sites' group
pub named_operator : (fs : List Factor) (ss : List SiteValue) (f : ℕ × List ℕ) → AreSites fs ss → 0 < f.0 → f.0 ≤ length ss → place_of (ops_for ss f) f.1 < length (ops_for ss f) →
    IsOperator (op_for ss f) × ((op_for ss f).group ≡ fs)
named_operator fs ss f h some within lt =
    let at : f.0 - 1 < length ss = omega arith in
    let on = (h.sites (f.0 - 1) no_site at).ops (place_of (ops_for ss f) f.1) no_operator lt in
    (on.operator, on.group ∙ h.groups (f.0 - 1) no_site at)

pub named_canonical : (fs : List Factor) (ss : List SiteValue) (f : ℕ × List ℕ) → AreSites fs ss → 0 < f.0 → f.0 ≤ length ss → place_of (ops_for ss f) f.1 < length (ops_for ss f) →
    IsCanonical fs (op_for ss f).charge × IsWithin 10000000 fs (op_for ss f).charge
named_canonical fs ss f h some within lt =
    let named = named_operator fs ss f h some within lt in
    (subst (λ gs. IsCanonical gs (op_for ss f).charge) named.1 named.0.canonical, subst (λ gs. IsWithin 10000000 gs (op_for ss f).charge) named.1 named.0.within)

-- charges that can't differ are the same
pub same_charges : (a b : List ℤ) → (a ≢ b → ⊥) → a ≡ b
same_charges a b h = by (pointwise int_eq a b) refl
  where
    by : (t : Bool) → pointwise int_eq a b ≡ t → a ≡ b
    by true e = (signed_items a b).0 e
    by false e = absurd (h (λ same. false≢true (sym e ∙ (signed_items a b).1 same)))

pub some_terms : (ws : List TermValue) → (BadCount ws → ⊥) → 0 < length ws
some_terms ws h = by (cases_lt 0 (length ws))
  where
    by : (0 < length ws) ⊎ (length ws ≤ 0) → 0 < length ws
    by (inl lt) = lt
    by (inr le) = absurd (h (inl (omega arith)))
