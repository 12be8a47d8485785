-- The open legs of a network are -1, -2, .., as many as there are legs without a positive label.
use Rattle.std.proofs.Common.{◌≡◌, ◌≢◌, ◌≤◌, ◌<◌, ℕ, zero, suc, ◌+◌, ℤ, pos, negsuc, Bool, true, false, not, cond, List, [], ◌∷◌, refl, sym, ◌∙◌, ap, subst, ◌⊎◌, inl, inr, int_eq, arith}
use Rattle.std.proofs.lemmas.Bool.{false≢true, cases_eq, cases_lt, ne_eqb}
use Rattle.std.proofs.lemmas.List.Sums.{sum_by-cons}
use Rattle.qn_value.specs.Networks.{End}
use Rattle.qn_value.specs.Labels.{is_positive}
use Rattle.qn_value.specs.Magnitudes.{total_below}
use Rattle.qn_value.proofs.Sums.{label_test}
use Rattle.qn_net.specs.NetworkValues.{open_count}
use Rattle.qn_net.specs.Refusals.{legs_with}
use Rattle.qn_net.proofs.MeetingLemmas.{weight, counts, with-cons}

pub positive_suc : (n : ℕ) → is_positive (pos (suc n)) ≡ true
positive_suc n = ap not (ne_eqb (suc n) 0 (λ e. absurd (omega (arith, e))))

open-cons : (x : End) (es : List End) → open_count (x ∷ es) ≡ weight (not (is_positive x.label)) + open_count es
open-cons x es = sum_by-cons (λ e. cond (not (is_positive e.label)) 1 0) x es

pub no_weight : (b : Bool) → b ≡ false → weight b ≡ 0
no_weight true e = absurd (false≢true (sym e))
no_weight false e = refl

-- the legs with the labels -1 to -m
abbrev negatives : ℕ → List End → ℕ
negatives m es = total_below m (λ k. legs_with (negsuc k) es)

-- how many of the labels -1 to -m this one is
abbrev ones : ℕ → ℤ → ℕ
ones m l = total_below m (λ k. weight (int_eq l (negsuc k)))

negatives-cons : (m : ℕ) (x : End) (es : List End) → negatives m (x ∷ es) ≡ ones m x.label + negatives m es
negatives-cons zero x es = refl
negatives-cons (suc m) x es =
    let a : negatives m (x ∷ es) ≡ ones m x.label + negatives m es = negatives-cons m x es in
    let b : legs_with (negsuc m) (x ∷ es) ≡ weight (int_eq x.label (negsuc m)) + legs_with (negsuc m) es = with-cons (negsuc m) x es in
    omega arith

apart_weight : (l k : ℤ) → l ≢ k → weight (int_eq l k) ≡ 0
apart_weight l k n = go (int_eq l k) refl
  where
    go : (b : Bool) → int_eq l k ≡ b → weight b ≡ 0
    go true e = absurd (n (label_test.equal l k e))
    go false e = refl

number : {m n : ℕ} → negsuc m ≡ negsuc n → m ≡ n
number e = cc

ones_positive : (m n : ℕ) → ones m (pos n) ≡ 0
ones_positive zero n = refl
ones_positive (suc m) n =
    let a : ones m (pos n) ≡ 0 = ones_positive m n in
    let b : weight (int_eq (pos n) (negsuc m)) ≡ 0 = apart_weight (pos n) (negsuc m) (λ e. apart e) in
    omega arith
  where
    apart : pos n ≡ negsuc m → ⊥
    apart e = cc

ones_none : (m j : ℕ) → m ≤ j → ones m (negsuc j) ≡ 0
ones_none zero j l = refl
ones_none (suc m) j l =
    let a : ones m (negsuc j) ≡ 0 = ones_none m j (omega arith) in
    let b : weight (int_eq (negsuc j) (negsuc m)) ≡ 0 = apart_weight (negsuc j) (negsuc m) (λ e. let d : j ≡ m = number e in absurd (omega (arith, d, l))) in
    omega arith

ones_one : (m j : ℕ) → ones m (negsuc j) ≤ 1
ones_one zero j = omega arith
ones_one (suc m) j = go (cases_eq j m) (ones_one m j)
  where
    small : (b : Bool) → weight b ≤ 1
    small true = omega arith
    small false = omega arith

    go : (j ≡ m) ⊎ (j ≢ m) → ones m (negsuc j) ≤ 1 → ones m (negsuc j) + weight (int_eq (negsuc j) (negsuc m)) ≤ 1
    go (inl e) ih =
        let a : ones m (negsuc j) ≡ 0 = ones_none m j (omega arith) in
        let b : weight (int_eq (negsuc j) (negsuc m)) ≤ 1 = small (int_eq (negsuc j) (negsuc m)) in
        omega arith
    go (inr n) ih =
        let b : weight (int_eq (negsuc j) (negsuc m)) ≡ 0 = apart_weight (negsuc j) (negsuc m) (λ e. n (number e)) in
        omega arith

ones_some : (m j : ℕ) → j < m → 0 < ones m (negsuc j)
ones_some zero j l = absurd (omega arith)
ones_some (suc m) j l = go (cases_eq j m) (ones_some m j)
  where
    go : (j ≡ m) ⊎ (j ≢ m) → (j < m → 0 < ones m (negsuc j)) → 0 < ones m (negsuc j) + weight (int_eq (negsuc j) (negsuc m))
    go (inl e) ih =
        let b : weight (int_eq (negsuc j) (negsuc m)) ≡ 1 = counts (int_eq (negsuc j) (negsuc m)) (ap (λ k. int_eq (negsuc j) (negsuc k)) (sym e) ∙ label_test.itself (negsuc j)) in
        omega arith
    go (inr n) ih = let a : 0 < ones m (negsuc j) = ih (omega (arith, n)) in omega arith

ones_small : (m : ℕ) (l : ℤ) → ones m l ≤ weight (not (is_positive l))
ones_small m (pos n) = let a : ones m (pos n) ≡ 0 = ones_positive m n in omega arith
ones_small m (negsuc j) = ones_one m j

negatives_none : (m : ℕ) → negatives m [] ≡ 0
negatives_none zero = refl
negatives_none (suc m) = let a : negatives m [] ≡ 0 = negatives_none m in let b : legs_with (negsuc m) [] ≡ 0 = refl in omega arith

-- no more than the open legs
pub negatives_within : (m : ℕ) (es : List End) → negatives m es ≤ open_count es
negatives_within m [] = let a : negatives m [] ≡ 0 = negatives_none m in omega arith
negatives_within m (x ∷ es) =
    let a : negatives m (x ∷ es) ≡ ones m x.label + negatives m es = negatives-cons m x es in
    let b : open_count (x ∷ es) ≡ weight (not (is_positive x.label)) + open_count es = open-cons x es in
    let c : ones m x.label ≤ weight (not (is_positive x.label)) = ones_small m x.label in
    let d : negatives m es ≤ open_count es = negatives_within m es in
    omega arith

-- and all of them, where no other label that is not positive stands
pub open_within : (m : ℕ) (es : List End) → ((k : ℕ) → m ≤ k → legs_with (negsuc k) es ≡ 0) → legs_with (pos 0) es ≡ 0 → open_count es ≤ negatives m es
open_within m [] h z = let a : open_count [] ≡ 0 = refl in omega arith
open_within m (x ∷ es) h z =
    let a : negatives m (x ∷ es) ≡ ones m x.label + negatives m es = negatives-cons m x es in
    let b : open_count (x ∷ es) ≡ weight (not (is_positive x.label)) + open_count es = open-cons x es in
    let d : open_count es ≤ negatives m es = open_within m es (λ k l. let c : legs_with (negsuc k) (x ∷ es) ≡ weight (int_eq x.label (negsuc k)) + legs_with (negsuc k) es = with-cons (negsuc k) x es in let f = h k l in omega (arith, c, f)) (rest z) in
    let c : weight (not (is_positive x.label)) ≤ ones m x.label = go x.label refl in
    omega arith
  where
    rest : legs_with (pos 0) (x ∷ es) ≡ 0 → legs_with (pos 0) es ≡ 0
    rest z = let c : legs_with (pos 0) (x ∷ es) ≡ weight (int_eq x.label (pos 0)) + legs_with (pos 0) es = with-cons (pos 0) x es in omega (arith, c, z)

    here : (l : ℤ) → x.label ≡ l → legs_with l (x ∷ es) ≡ 0 → ⊥
    here l e n =
        let c : legs_with l (x ∷ es) ≡ weight (int_eq x.label l) + legs_with l es = with-cons l x es in
        let w : weight (int_eq x.label l) ≡ 1 = counts (int_eq x.label l) (ap (λ k. int_eq k l) e ∙ label_test.itself l) in
        absurd (omega (arith, c, w, n))

    at : (l : ℤ) → x.label ≡ l → weight (not (is_positive l)) ≤ ones m l
    at (pos zero) e = absurd (here (pos 0) e z)
    at (pos (suc n)) e = let w : weight (not (is_positive (pos (suc n)))) ≡ 0 = no_weight (not (is_positive (pos (suc n)))) (ap not (positive_suc n)) in omega arith
    at (negsuc j) e = by (cases_lt j m)
      where
        by : (j < m) ⊎ (m ≤ j) → 1 ≤ ones m (negsuc j)
        by (inl l) = let s : 0 < ones m (negsuc j) = ones_some m j l in omega arith
        by (inr l) = absurd (here (negsuc j) e (h j l))

    go : (l : ℤ) → x.label ≡ l → weight (not (is_positive x.label)) ≤ ones m x.label
    go l e = subst (λ k. weight (not (is_positive k)) ≤ ones m k) (sym e) (at l e)

pub negatives_at_most : (m : ℕ) (es : List End) → ((k : ℕ) → legs_with (negsuc k) es ≤ 1) → negatives m es ≤ m
negatives_at_most zero es h = omega arith
negatives_at_most (suc m) es h = let a : negatives m es ≤ m = negatives_at_most m es h in let b = h m in omega (arith, a, b)

pub negatives_at_least : (m : ℕ) (es : List End) → ((k : ℕ) → k < m → 0 < legs_with (negsuc k) es) → m ≤ negatives m es
negatives_at_least zero es h = omega arith
negatives_at_least (suc m) es h = let a : m ≤ negatives m es = negatives_at_least m es (λ k l. h k (omega arith)) in let b = h m (omega arith) in omega (arith, a, b)

-- without gaps and repetitions the labels of the open legs are -1 to -n, where n is their number
pub stands_below : (es : List End) → legs_with (pos 0) es ≡ 0 → ((k : ℕ) → legs_with (negsuc k) es ≤ 1) →
    ((n k : ℕ) → legs_with (negsuc n) es ≡ 0 → n < k → 0 < legs_with (negsuc k) es → ⊥) → (i : ℕ) → i < open_count es → 0 < legs_with (negsuc i) es
stands_below es z one gap i l = go (cases_eq (legs_with (negsuc i) es) 0)
  where
    beyond : legs_with (negsuc i) es ≡ 0 → (k : ℕ) → i ≤ k → legs_with (negsuc k) es ≡ 0
    beyond e k m = by (cases_eq i k) (cases_eq (legs_with (negsuc k) es) 0)
      where
        by : (i ≡ k) ⊎ (i ≢ k) → (legs_with (negsuc k) es ≡ 0) ⊎ (legs_with (negsuc k) es ≢ 0) → legs_with (negsuc k) es ≡ 0
        by (inl q) p = ap (λ j. legs_with (negsuc j) es) (sym q) ∙ e
        by (inr q) (inl p) = p
        by (inr q) (inr p) = absurd (gap i k e (omega (arith, q, m)) (omega (arith, p)))

    go : (legs_with (negsuc i) es ≡ 0) ⊎ (legs_with (negsuc i) es ≢ 0) → 0 < legs_with (negsuc i) es
    go (inl e) =
        let a : open_count es ≤ negatives i es = open_within i es (beyond e) z in
        let b : negatives i es ≤ i = negatives_at_most i es one in
        absurd (omega (arith, a, b, l))
    go (inr p) = omega (arith, p)

pub below_open : (es : List End) → ((n k : ℕ) → legs_with (negsuc n) es ≡ 0 → n < k → 0 < legs_with (negsuc k) es → ⊥) → (k : ℕ) → 0 < legs_with (negsuc k) es → k < open_count es
below_open es gap k s =
    let a : suc k ≤ negatives (suc k) es = negatives_at_least (suc k) es (λ j l. by j l (cases_eq (legs_with (negsuc j) es) 0)) in
    let b : negatives (suc k) es ≤ open_count es = negatives_within (suc k) es in
    omega (arith, a, b)
  where
    by : (j : ℕ) → j < suc k → (legs_with (negsuc j) es ≡ 0) ⊎ (legs_with (negsuc j) es ≢ 0) → 0 < legs_with (negsuc j) es
    by j l (inr p) = omega (arith, p)
    by j l (inl e) = at (cases_eq j k)
      where
        at : (j ≡ k) ⊎ (j ≢ k) → 0 < legs_with (negsuc j) es
        at (inl q) = subst (λ i. 0 < legs_with (negsuc i) es) (sym q) s
        at (inr q) = absurd (gap j k e (omega (arith, q, l)) s)
