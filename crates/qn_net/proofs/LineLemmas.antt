-- Labels out of range stand on no leg, so only those in range need be looked at.
use Rattle.std.proofs.Common.{◌≡◌, ◌≤◌, ◌<◌, ℕ, zero, suc, ◌+◌, ℤ, pos, negsuc, Bool, true, false, cond, List, [], ◌∷◌, refl, sym, ◌∙◌, ap, ap₂, subst, int_eq, nat_lt, IsTrue, ◌⊎◌, inl, inr, eq-or-lt_of_le, arith}
use Rattle.std.specs.List.{All}
use Rattle.std.proofs.lemmas.Bool.{false≢true, cases_lt}
use Rattle.std.proofs.lemmas.List.Sums.{sum_by-cons}
use Rattle.qn_charge.specs.Firsts.{IsFirst, HasNone}
use Rattle.qn_value.specs.Networks.{End}
use Rattle.qn_value.proofs.Sums.{label_test}
use Rattle.qn_value.proofs.PlacedLemmas.{all_first, all_others}
use Rattle.qn_net.specs.Refusals.{IsLabel, tally, legs_with, IsMiscounted, IsRepeated, HasEqualArrows, IsGap, positives_below, positives}
use Rattle.qn_net.specs.Tables.{HasLabel}
use Rattle.qn_net.proofs.TableLemmas.{legs_are_ends}

-- what is no label stands nowhere
pub none_with : (es : List End) → All HasLabel es → (l : ℤ) → (IsLabel l → ⊥) → legs_with l es ≡ 0
none_with [] h l n = refl
none_with (e ∷ es) h l n =
    sum_by-cons (λ x. cond (int_eq x.label l) 1 0) e es
    ∙ ap₂ ◌+◌ (go (int_eq e.label l) refl) (none_with es (all_others HasLabel e es h) l n)
  where
    go : (b : Bool) → int_eq e.label l ≡ b → let n : ℕ = cond b 1 0 in n ≡ 0
    go true q = absurd (n (subst IsLabel (label_test.equal e.label l q) (all_first HasLabel e es h)))
    go false q = refl

no_zero : IsLabel (pos 0) → ⊥
no_zero h = h.0 refl

pub none_zero : (es : List End) → All HasLabel es → legs_with (pos 0) es ≡ 0
none_zero es h = none_with es h (pos 0) no_zero

pub none_above : (es : List End) → All HasLabel es → (n : ℕ) → 1024 < n → legs_with (pos n) es ≡ 0
none_above es h n l = none_with es h (pos n) (λ k. absurd (omega (arith, k.1)))

pub none_below : (es : List End) → All HasLabel es → (n : ℕ) → 1024 ≤ n → legs_with (negsuc n) es ≡ 0
none_below es h n l = none_with es h (negsuc n) (λ k. absurd (omega (arith, k.1)))

-- one that is out of range has none of these faults
pub counted_off : (es : List End) (n : ℕ) → legs_with (pos n) es ≡ 0 → IsMiscounted es n → ⊥
counted_off es n z m = m.0 z

pub arrows_off : (es : List End) (n : ℕ) → legs_with (pos n) es ≡ 0 → HasEqualArrows es n → ⊥
arrows_off es n z (inl t) = let e = legs_are_ends (pos n) es in absurd (omega (arith, e, t, z))
arrows_off es n z (inr t) = let e = legs_are_ends (pos n) es in absurd (omega (arith, e, t, z))

pub repeated_off : (es : List End) (n : ℕ) → legs_with (negsuc n) es ≡ 0 → IsRepeated es n → ⊥
repeated_off es n z t = absurd (omega (arith, t, z))

-- among the labels 1 to 1024 there is none, and so nowhere
pub none_at_all : (P : ℕ → Type 0) → (P 0 → ⊥) → ((n : ℕ) → 1024 < n → P n → ⊥) → ((n : ℕ) → n < 1025 → P n → ⊥) → HasNone P
none_at_all P z above h n p = go (cases_lt n 1025)
  where
    go : (n < 1025) ⊎ (1025 ≤ n) → ⊥
    go (inl l) = h n l p
    go (inr l) = above n (omega arith) p

pub step_none : (P : ℕ → Type 0) (n : ℕ) → ((k : ℕ) → k < n → P k → ⊥) → (P n → ⊥) → (k : ℕ) → k < n + 1 → P k → ⊥
step_none P n h p k l q = go (eq-or-lt_of_le (omega arith))
  where
    go : (k ≡ n) ⊎ (k < n) → ⊥
    go (inl e) = p (subst P e q)
    go (inr m) = h k m q

pub first_none : (P : ℕ → Type 0) → (P 0 → ⊥) → (k : ℕ) → k < 1 → P k → ⊥
first_none P z k l q = let e : k ≡ 0 = omega arith in z (subst P e q)

-- a count of legs by the counts of both ends
pub counted_by : (l : ℤ) (es : List End) (x y : ℕ) → x ≡ tally (record { label = l; inward = true }) es → y ≡ tally (record { label = l; inward = false }) es → x + y ≡ legs_with l es
counted_by l es x y p q = ap₂ ◌+◌ p q ∙ sym (legs_are_ends l es)

-- of the labels -1 to -1,024 there is none, and so nowhere
pub none_from : (P : ℕ → Type 0) → ((n : ℕ) → 1024 ≤ n → P n → ⊥) → ((n : ℕ) → n < 1024 → P n → ⊥) → HasNone P
none_from P above h n p = go (cases_lt n 1024)
  where
    go : (n < 1024) ⊎ (1024 ≤ n) → ⊥
    go (inl l) = h n l p
    go (inr l) = above n l p

pub pos_label : (n : ℕ) → 0 < n → n ≤ 1024 → IsLabel (pos n)
pos_label n z l = ((λ e. absurd (omega (arith, number e, z))), l)
  where
    number : pos n ≡ pos 0 → n ≡ 0
    number e = cc

pub negsuc_label : (n : ℕ) → n < 1024 → IsLabel (negsuc n)
negsuc_label n l = ((λ e. apart e), omega arith)
  where
    apart : negsuc n ≡ pos 0 → ⊥
    apart e = cc

pub stands_not : (x : ℕ) (b : Bool) → b ≡ false → (0 < x → IsTrue b) → x ≡ 0
stands_not zero b e h = refl
stands_not (suc x) b e h = absurd (false≢true (sym e ∙ h (omega arith)))

pub step_beyond : (es : List End) (n k : ℕ) → ((j : ℕ) → n < j → j < k → 0 < legs_with (negsuc j) es → ⊥) → (0 < legs_with (negsuc k) es → ⊥) →
    (j : ℕ) → n < j → j < k + 1 → 0 < legs_with (negsuc j) es → ⊥
step_beyond es n k h p j l m q = go (eq-or-lt_of_le (omega arith))
  where
    go : (j ≡ k) ⊎ (j < k) → ⊥
    go (inl e) = p (subst (λ i. 0 < legs_with (negsuc i) es) e q)
    go (inr i) = h j l i q

pub none_beyond : (es : List End) → All HasLabel es → (n : ℕ) → ((j : ℕ) → n < j → j < 1024 → 0 < legs_with (negsuc j) es → ⊥) → (k : ℕ) → n < k → 0 < legs_with (negsuc k) es → ⊥
none_beyond es h n f k l q = go (cases_lt k 1024)
  where
    go : (k < 1024) ⊎ (1024 ≤ k) → ⊥
    go (inl m) = f k l m q
    go (inr m) = let z = none_below es h k m in absurd (omega (arith, z, q))

-- the first missing label is the first gap, where another one stands beyond it
pub gap_first : (es : List End) (n : ℕ) → IsFirst (λ k. legs_with (negsuc k) es ≡ 0) n → (k : ℕ) × (n < k) × (0 < legs_with (negsuc k) es) → IsFirst (IsGap es) n
gap_first es n f g = record { here = (f.here, g); before = λ j l p. f.before j l p.0 }

pub gap_none : (es : List End) (n : ℕ) → IsFirst (λ k. legs_with (negsuc k) es ≡ 0) n → ((k : ℕ) × (n < k) × (0 < legs_with (negsuc k) es) → ⊥) → HasNone (IsGap es)
gap_none es n f g j p = go (cases_lt j n)
  where
    go : (j < n) ⊎ (n ≤ j) → ⊥
    go (inl l) = f.before j l p.0
    go (inr l) = g (p.1.0, omega (arith, p.1.1, l), p.1.2)

pub gap_nowhere : (es : List End) → All HasLabel es → ((n : ℕ) → n < 1024 → 0 < legs_with (negsuc n) es) → HasNone (IsGap es)
gap_nowhere es h f n p = go (cases_lt n 1024)
  where
    go : (n < 1024) ⊎ (1024 ≤ n) → ⊥
    go (inl l) = let s = f n l in let z = p.0 in absurd (omega (arith, s, z))
    go (inr l) = let z = none_below es h p.1.0 (omega (arith, p.1.1, l)) in let s = p.1.2 in absurd (omega (arith, z, s))

-- the positive labels that stand

pub positives_start : (es : List End) → All HasLabel es → [] ≡ positives_below es 1
positives_start es h = sym (ap (λ k. cond (nat_lt 0 k) (pos 0 ∷ []) []) (none_zero es h) ∙ none_there)
  where
    none_there : cond (nat_lt 0 0) (pos 0 ∷ []) [] ≡ []
    none_there = refl

pub positives_all : (es : List End) (n : ℕ) (xs : List ℤ) → n ≡ 1025 → xs ≡ positives_below es n → xs ≡ positives es
unfolding positives
positives_all es n xs e f = f ∙ ap (positives_below es) e
