-- Site order: the stable sort of a term's operators, and its sign.
use Rattle.std.proofs.Common.{◌≡◌, ◌≢◌, ℕ, zero, suc, ◌+◌, ◌-◌, ◌≤◌, ◌<◌, ◌⊎◌, inl, inr, Bool, true, false, not, ◌&&◌, ◌==◌, cond, List, [], ◌∷◌, length, get_or, map, filter, refl, sym, ◌∙◌, ap, ap₂, subst, arith}
use Rattle.std.specs.Prelude.{nat_lt}
use Rattle.std.specs.Ordering.{is_lt, nat_cmp}
use Rattle.std.specs.List.Sorted.{ties}
use Rattle.std.proofs.lemmas.Bool.{cases_lt, false≢true, eqb-true}
use Rattle.std.proofs.lemmas.Bool.Decides.{nat_tests}
use mathlib.Core.Path.{fun_ext}
use Rattle.qn_sign.specs.Sign.{is_odd, xor}
use Rattle.qn_gauss.specs.Gaussian.{signed}
use Rattle.qn_charge.specs.declared.factor.Factor as charge
use Rattle.qn_charge.specs.Charges.{parity}
use Rattle.qn_sites.specs.Sites.{SiteValue}
use Rattle.qn_opsum.specs.Strings.{AreBelow, AreFrom, AreOrdered, Factor, Sites, State, in_site_order, inversions, odd_factor, place, string}
use Rattle.qn_opsum.specs.Sums.{IsSiteOrder, factor_of, op_for, passes, sites_of, string_of, turns}
use Rattle.qn_opsum.specs.Refusals.{AreSites, BadSite, IsGood, factor_at}
use Rattle.qn_opsum.proofs.Lookups.{good_at, has_parities}
use Rattle.qn_opsum.proofs.Products.{same_number}
use Rattle.qn_opsum.proofs.StringLaws.{inversions-cons, odd_below}
use Rattle.qn_opsum.proofs.NormalOrder.{normal_law, ordered-sort}

-- the operators on site k, in the order of the term
abbrev pub on_site_of : ℕ → List Factor → List Factor
on_site_of k [] = []
on_site_of k (f ∷ fs) = cond (f.site == k) (f ∷ on_site_of k fs) (on_site_of k fs)

-- the operators of each site keep their order

site_place : (k : ℕ) (f : Factor) (gs : List Factor) → on_site_of k (place f gs) ≡ on_site_of k (f ∷ gs)
site_place k f [] = refl
site_place k f (g ∷ gs) = go (nat_lt g.site f.site) refl (site_place k f gs)
  where
    clash : (i j k : ℕ) → nat_lt i j ≡ true → j ≡ k → i ≡ k → false ≡ true
    clash i j k h e l = grind (arith, nat_tests)

    swap : (p : Bool) → (f.site == k) ≡ p → (q : Bool) → (g.site == k) ≡ q → nat_lt g.site f.site ≡ true →
        cond q (g ∷ cond p (f ∷ on_site_of k gs) (on_site_of k gs)) (cond p (f ∷ on_site_of k gs) (on_site_of k gs)) ≡
        cond p (f ∷ cond q (g ∷ on_site_of k gs) (on_site_of k gs)) (cond q (g ∷ on_site_of k gs) (on_site_of k gs))
    swap true e true l h = absurd (false≢true (clash g.site f.site k h (eqb-true f.site k e) (eqb-true g.site k l)))
    swap true e false l h = refl
    swap false e true l h = refl
    swap false e false l h = refl

    go : (b : Bool) → nat_lt g.site f.site ≡ b → on_site_of k (place f gs) ≡ on_site_of k (f ∷ gs) →
        on_site_of k (cond b (g ∷ place f gs) (f ∷ g ∷ gs)) ≡ on_site_of k (f ∷ g ∷ gs)
    go true e ih = ap (λ fs. cond (g.site == k) (g ∷ fs) fs) ih ∙ swap (f.site == k) refl (g.site == k) refl e
    go false e ih = refl

site_sort : (k : ℕ) (fs : List Factor) → on_site_of k (in_site_order fs) ≡ on_site_of k fs
site_sort k [] = refl
site_sort k (f ∷ fs) = site_place k f (in_site_order fs) ∙ ap (λ gs. cond (f.site == k) (f ∷ gs) gs) (site_sort k fs)

-- two terms in site order with the same operators on each site

none_before : (i k : ℕ) (fs : List Factor) → AreFrom i fs → nat_lt k i ≡ true → on_site_of k fs ≡ []
none_before i k [] a h = refl
none_before i k (f ∷ fs) a h = ap (λ b. cond b (f ∷ on_site_of k fs) (on_site_of k fs)) (differ f.site a.0) ∙ none_before i k fs a.1 h
  where
    differ : (j : ℕ) → nat_lt j i ≡ false → (j == k) ≡ false
    differ j e = grind (arith, nat_tests)

-- the operators on the first operator's site begin with it
at_first : (f : Factor) (fs : List Factor) → on_site_of f.site (f ∷ fs) ≡ f ∷ on_site_of f.site fs
at_first f fs = ap (λ b. cond b (f ∷ on_site_of f.site fs) (on_site_of f.site fs)) (same_number f.site)

not_empty : {A : Type 0} (x : A) (xs : List A) → x ∷ xs ≡ [] → ⊥
not_empty {A = A} x xs e = subst full e tt
  where
    full : List A → Type 0
    full [] = ⊥
    full (y ∷ ys) = Unit {0}

abbrev first_or : Factor → List Factor → Factor
first_or f [] = f
first_or f (g ∷ gs) = g

abbrev tail_of : List Factor → List Factor
tail_of [] = []
tail_of (g ∷ gs) = gs

same_order : (gs hs : List Factor) → AreOrdered gs → AreOrdered hs → ((k : ℕ) → on_site_of k gs ≡ on_site_of k hs) → gs ≡ hs
same_order [] [] a b h = refl
same_order [] (y ∷ hs) a b h = absurd (not_empty y (on_site_of y.site hs) (sym (at_first y hs) ∙ sym (h y.site)))
same_order (x ∷ gs) [] a b h = absurd (not_empty x (on_site_of x.site gs) (sym (at_first x gs) ∙ h x.site))
same_order (x ∷ gs) (y ∷ hs) a b h =
    go (nat_lt x.site y.site) refl (nat_lt y.site x.site) refl (same_order gs hs a.1 b.1)
  where
    lower_clash : (i j k : ℕ) → nat_lt i j ≡ true → (j == i) ≡ false
    lower_clash i j k e = grind (arith, nat_tests)

    equal : (i j : ℕ) → nat_lt i j ≡ false → nat_lt j i ≡ false → i ≡ j
    equal i j e f = grind (arith, nat_tests)

    -- no operator of a term that begins later is on an earlier site
    later_empty : (f : Factor) (fs : List Factor) (i : ℕ) → AreFrom f.site fs → nat_lt i f.site ≡ true → on_site_of i (f ∷ fs) ≡ []
    later_empty f fs i c e = ap (λ b. cond b (f ∷ on_site_of i fs) (on_site_of i fs)) (lower_clash i f.site 0 e) ∙ none_before f.site i fs c e

    heads : x.site ≡ y.site → x ∷ on_site_of x.site gs ≡ y ∷ on_site_of x.site hs
    heads e = sym (at_first x gs) ∙ h x.site ∙ ap (λ b. cond b (y ∷ on_site_of x.site hs) (on_site_of x.site hs)) (ap (λ i. y.site == i) e ∙ same_number y.site)

    tails : x.site ≡ y.site → (k : ℕ) → on_site_of k gs ≡ on_site_of k hs
    tails e k = at (x.site == k) refl
      where
        at : (p : Bool) → (x.site == k) ≡ p → on_site_of k gs ≡ on_site_of k hs
        at true l = subst (λ i. on_site_of i gs ≡ on_site_of i hs) (eqb-true x.site k l) (ap tail_of (heads e))
        at false l =
            sym (ap (λ b. cond b (x ∷ on_site_of k gs) (on_site_of k gs)) l)
            ∙ h k
            ∙ ap (λ b. cond b (y ∷ on_site_of k hs) (on_site_of k hs)) (ap (λ i. i == k) (sym e) ∙ l)

    go : (p : Bool) → nat_lt x.site y.site ≡ p → (q : Bool) → nat_lt y.site x.site ≡ q → (((k : ℕ) → on_site_of k gs ≡ on_site_of k hs) → gs ≡ hs) → x ∷ gs ≡ y ∷ hs
    go true e q f ih = absurd (not_empty x (on_site_of x.site gs) (sym (at_first x gs) ∙ h x.site ∙ later_empty y hs x.site b.0 e))
    go false e true f ih = absurd (not_empty y (on_site_of y.site hs) (sym (at_first y hs) ∙ sym (h y.site) ∙ later_empty x gs y.site a.0 f))
    go false e false f ih = ap₂ ◌∷◌ (ap (first_or x) (heads (equal x.site y.site e f))) (ih (tails (equal x.site y.site e f)))

pub stable_law : (fs gs : List Factor) → AreOrdered gs → ((k : ℕ) → on_site_of k gs ≡ on_site_of k fs) → gs ≡ in_site_order fs
stable_law fs gs o h = same_order gs (in_site_order fs) o (ordered-sort fs) (λ k. h k ∙ sym (site_sort k fs))

-- ---- operators by the number of their site, from 1, and their name

abbrev Named : Type 0
Named = ℕ × List ℕ

-- no operator is on site 0
abbrev Positive : List Named → Type 0
Positive [] = Unit {0}
Positive (g ∷ gs) = (0 < g.0) × Positive gs

positive_from : (gs : List Named) → ((i : ℕ) → i < length gs → 0 < (factor_at gs i).0) → Positive gs
positive_from [] h = tt
positive_from (g ∷ gs) h = (h 0 (omega arith), positive_from gs (λ i lt. h (suc i) (omega arith)))

pub good_positive : (ss : List SiteValue) (gs : List Named) → IsGood ss gs → Positive gs
good_positive ss gs h = positive_from gs (λ i lt. (good_at ss gs i (factor_at gs i) h lt (sym (same gs i lt))).0)
  where
    same : (gs : List Named) (i : ℕ) → i < length gs → get_or gs i (factor_at gs i) ≡ factor_at gs i
    same [] i lt = absurd (omega arith)
    same (g ∷ gs) zero lt = refl
    same (g ∷ gs) (suc i) lt = same gs i (omega arith)

-- none is on site 0 where the filter finds none
none_at_zero : (gs : List Named) → Positive gs → filter (λ f. f.0 == 0) gs ≡ []
none_at_zero [] p = refl
none_at_zero (g ∷ gs) p = ap (λ b. cond b (g ∷ filter (λ f. f.0 == 0) gs) (filter (λ f. f.0 == 0) gs)) (above g.0 p.0) ∙ none_at_zero gs p.1
  where
    above : (n : ℕ) → 0 < n → (n == 0) ≡ false
    above n h = grind (arith, nat_tests)

positive_back : (gs : List Named) → filter (λ f. f.0 == 0) gs ≡ [] → Positive gs
positive_back [] e = tt
positive_back (g ∷ gs) e = by (g.0 == 0) refl e (positive_back gs)
  where
    above : (n : ℕ) → (n == 0) ≡ false → 0 < n
    above n h = grind (arith, nat_tests)

    by : (b : Bool) → (g.0 == 0) ≡ b → cond b (g ∷ filter (λ f. f.0 == 0) gs) (filter (λ f. f.0 == 0) gs) ≡ [] → (filter (λ f. f.0 == 0) gs ≡ [] → Positive gs) → Positive (g ∷ gs)
    by true q h ih = absurd (not_empty g (filter (λ f. f.0 == 0) gs) h)
    by false q h ih = (above g.0 q, ih h)

-- the operators on a site
on_site_is : (ss : List SiteValue) (k : ℕ) (gs : List Named) → Positive gs → on_site_of k (map (factor_of ss) gs) ≡ map (factor_of ss) (filter (λ f. f.0 == suc k) gs)
on_site_is ss k [] p = refl
on_site_is ss k (g ∷ gs) p =
    ap₂ (λ b hs. cond b (factor_of ss g ∷ hs) hs) (same g.0 p.0) (on_site_is ss k gs p.1) ∙ by (g.0 == suc k)
  where
    same : (n : ℕ) → 0 < n → (n - 1 == k) ≡ (n == suc k)
    same n h = grind (arith, nat_tests)

    by : (b : Bool) → cond b (factor_of ss g ∷ map (factor_of ss) (filter (λ f. f.0 == suc k) gs)) (map (factor_of ss) (filter (λ f. f.0 == suc k) gs)) ≡
        map (factor_of ss) (cond b (g ∷ filter (λ f. f.0 == suc k) gs) (filter (λ f. f.0 == suc k) gs))
    by true = refl
    by false = refl

-- sites that do not descend
from_ascending : (ss : List SiteValue) (j : ℕ) (hs : List Named) → ((i : ℕ) (d : Named) → i < length hs → j ≤ (get_or hs i d).0) → AreFrom (j - 1) (map (factor_of ss) hs)
from_ascending ss j [] h = tt
from_ascending ss j (g ∷ gs) h = (low j g.0 (h 0 g (omega arith)), from_ascending ss j gs (λ i d lt. h (suc i) d (omega arith)))
  where
    low : (i n : ℕ) → i ≤ n → nat_lt (n - 1) (i - 1) ≡ false
    low i n l = grind (arith, nat_tests)

ordered_from : (ss : List SiteValue) (hs : List Named) → ((i j : ℕ) (d : Named) → i < j → j < length hs → (get_or hs i d).0 ≤ (get_or hs j d).0) → AreOrdered (map (factor_of ss) hs)
ordered_from ss [] h = tt
ordered_from ss (g ∷ gs) h =
    (from_ascending ss g.0 gs (λ i d lt. h 0 (suc i) d (omega arith) (omega arith)), ordered_from ss gs (λ i j d lt le. h (suc i) (suc j) d (omega arith) (omega arith)))

-- operators in the stable order by site are the sorted term
pub sorted_is : (ss : List SiteValue) (gs hs : List Named) → Positive gs → IsSiteOrder gs hs → map (factor_of ss) hs ≡ in_site_order (map (factor_of ss) gs)
sorted_is ss gs hs p o =
    stable_law (map (factor_of ss) gs) (map (factor_of ss) hs) (ordered_from ss hs o.ascending)
    (λ k. on_site_is ss k hs (positive_back hs (o.stable 0 ∙ none_at_zero gs p)) ∙ (ap (map (factor_of ss)) (o.stable (suc k)) ∙ sym (on_site_is ss k gs p)))

-- ---- the sign

passes_is : (fs : List charge.Factor) (ss : List SiteValue) (j : ℕ) (gs : List Named) → 0 < j → Positive gs →
    passes j (map (λ g. (g.0, parity fs (op_for ss g).charge)) gs) ≡ odd_below (sites_of fs ss) (map (factor_of ss) gs) (j - 1)
passes_is fs ss j [] h p = refl
passes_is fs ss j (g ∷ gs) h p =
    ap₂ (λ b r. xor (parity fs (op_for ss g).charge && b) r) (same g.0 j p.0 h) (passes_is fs ss j gs h p.1)
  where
    same : (m n : ℕ) → 0 < m → 0 < n → nat_lt m n ≡ nat_lt (m - 1) (n - 1)
    same m n h k = grind (arith, nat_tests)

pub turns_is : (fs : List charge.Factor) (ss : List SiteValue) (gs : List Named) → Positive gs →
    turns (map (λ g. (g.0, parity fs (op_for ss g).charge)) gs) ≡ is_odd (inversions (sites_of fs ss) (map (factor_of ss) gs))
turns_is fs ss [] p = refl
turns_is fs ss (g ∷ gs) p =
    ap₂ (λ b r. xor (parity fs (op_for ss g).charge && b) r) (passes_is fs ss g.0 gs p.0 p.1) (turns_is fs ss gs p.1)
    ∙ sym (inversions-cons (sites_of fs ss) (factor_of ss g) (map (factor_of ss) gs))

-- ---- the string

below_from : (ss : List SiteValue) (gs : List Named) → ((i : ℕ) → i < length gs → (0 < (factor_at gs i).0) × ((factor_at gs i).0 ≤ length ss)) → AreBelow (length ss) (map (factor_of ss) gs)
below_from ss [] h = tt
below_from ss (g ∷ gs) h = (let first = h 0 (omega arith) in omega (arith, first.0, first.1), below_from ss gs (λ i lt. h (suc i) (omega arith)))

same_default : (gs : List Named) (i : ℕ) → i < length gs → factor_at gs i ≡ get_or gs i (factor_at gs i)
same_default [] i lt = absurd (omega arith)
same_default (g ∷ gs) zero lt = refl
same_default (g ∷ gs) (suc i) lt = same_default gs i (omega arith)

-- the operators of a good term are on sites
pub good_below : (ss : List SiteValue) (gs : List Named) → IsGood ss gs → AreBelow (length ss) (map (factor_of ss) gs)
good_below ss gs good = below_from ss gs (λ i lt. let at = good_at ss gs i (factor_at gs i) good lt (same_default gs i lt) in (at.0, at.1))

-- a term is its sorted term, with the sign of its odd operators' order
pub sorted_string : (fs : List charge.Factor) (ss : List SiteValue) (gs hs : List Named) → AreSites fs ss → IsGood ss gs → IsSiteOrder gs hs → (t s : State) →
    string_of fs ss gs t s ≡ signed (is_odd (inversions (sites_of fs ss) (map (factor_of ss) gs))) (string_of fs ss hs t s)
sorted_string fs ss gs hs h good o t s =
    normal_law (sites_of fs ss) (has_parities fs ss h) (map (factor_of ss) gs)
    (good_below ss gs good) t s
    ∙ ap (λ xs. signed (is_odd (inversions (sites_of fs ss) (map (factor_of ss) gs))) (string (sites_of fs ss) xs t s)) (sym (sorted_is ss gs hs (good_positive ss gs good) o))

-- ---- what a stable sort by the site says

pub site_ties : (k : ℕ) (f : Named) → ties (λ (x y : Named). is_lt (nat_cmp x.0 y.0)) (k, []) f ≡ (f.0 == k)
site_ties k f = grind (arith, nat_tests)

pub stable_from : (gs hs : List Named) → ((x : Named) → filter (ties (λ (x y : Named). is_lt (nat_cmp x.0 y.0)) x) hs ≡ filter (ties (λ (x y : Named). is_lt (nat_cmp x.0 y.0)) x) gs) →
    (k : ℕ) → filter (λ f. f.0 == k) hs ≡ filter (λ f. f.0 == k) gs
stable_from gs hs h k = sym (ap (λ p. filter p hs) (fun_ext (site_ties k))) ∙ (h (k, []) ∙ ap (λ p. filter p gs) (fun_ext (site_ties k)))
