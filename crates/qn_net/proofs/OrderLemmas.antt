-- The labels of an order, one after another.
use Rattle.std.proofs.Common.{◌≡◌, ◌≢◌, ◌≤◌, ◌<◌, ℕ, ◌+◌, ℤ, pos, negsuc, Bool, true, false, List, [], ◌∷◌, ◌++◌, length, take, get_or, set, replicate, refl, sym, ◌∙◌, ap, subst, ◌⊎◌, inl, inr, ◌↔◌, arith}
use Rattle.std.specs.List.{All, Contains}
use Rattle.std.proofs.lemmas.Bool.{false≢true, cases_lt, cases_eq}
use Rattle.std.proofs.lemmas.List.{take_more, get_or-set_same, get_or-set_other, length-set, length-replicate, get_or-replicate, take_all}
use Rattle.std.proofs.lemmas.List.Elements.{Contains-append_left, Contains-push, Contains-push_cases}
use Rattle.qn_charge.specs.Firsts.{HasNone}
use Rattle.qn_value.specs.Networks.{End}
use Rattle.qn_net.specs.Refusals.{label_at, legs_with, IsNoPositive, BadPlaceAt, LacksLabel}
use Rattle.qn_net.specs.Tables.{HasLabel}
use Rattle.qn_net.specs.Seen.{IsSeen}
use Rattle.qn_net.proofs.LineLemmas.{none_zero, none_above}

number : {m n : ℕ} → pos m ≡ pos n → m ≡ n
number e = cc

pub seen_none : IsSeen [] (replicate 1025 false)
seen_none = record {
  size = length-replicate {A = Bool} 1025 false;
  met = λ n z l. ((λ e. absurd (false≢true (sym (get_or-replicate {A = Bool} 1025 n false false (omega arith)) ∙ e))), (λ h. absurd (omega (arith, h.1))));
}

-- one label more
pub seen_more : (order : List ℤ) (i n : ℕ) (seen : List Bool) → i < length order → label_at order i ≡ pos n → n ≤ 1024 → IsSeen (take i order) seen →
    IsSeen (take (i + 1) order) (set seen n true)
seen_more order i n seen l at small f = record {
  size = length-set seen n true ∙ f.size;
  met = λ k z h. subst (λ xs. (get_or (set seen n true) k false ≡ true) ↔ Contains xs (pos k)) (sym (take_more order i (pos 0) l)) (go k z h (cases_eq k n));
}
  where
    room : n < length seen
    room = omega (arith, f.size)

    go : (k : ℕ) → 0 < k → k ≤ 1024 → (k ≡ n) ⊎ (k ≢ n) → (get_or (set seen n true) k false ≡ true) ↔ Contains (take i order ++ label_at order i ∷ []) (pos k)
    go k z h (inl e) =
        let here : get_or (set seen n true) k false ≡ true = ap (λ m. get_or (set seen n true) m false) e ∙ get_or-set_same seen n true false room in
        let label : label_at order i ≡ pos k = at ∙ ap pos (sym e) in
        ((λ _. subst (Contains (take i order ++ label_at order i ∷ [])) label (Contains-push (take i order) (label_at order i))), (λ _. here))
    go k z h (inr e) =
        let other : get_or (set seen n true) k false ≡ get_or seen k false = get_or-set_other seen n k true false e in (
          (λ t. Contains-append_left (take i order) (label_at order i ∷ []) (pos k) ((f.met k z h).0 (sym other ∙ t))),
          (λ c. back k e other z h (Contains-push_cases (take i order) (label_at order i) (pos k) c)),
        )
      where
        back : (k : ℕ) → k ≢ n → get_or (set seen n true) k false ≡ get_or seen k false → 0 < k → k ≤ 1024 → Contains (take i order) (pos k) ⊎ (label_at order i ≡ pos k) →
            get_or (set seen n true) k false ≡ true
        back k e other z h (inl c) = other ∙ (f.met k z h).1 c
        back k e other z h (inr c) = absurd (e (number (sym c ∙ at)))

-- a label that is new is no bad place
pub good_place : (es : List End) (order : List ℤ) (i n : ℕ) (seen : List Bool) → label_at order i ≡ pos n → 0 < n → n ≤ 1024 → 0 < legs_with (pos n) es →
    get_or seen n false ≡ false → IsSeen (take i order) seen → BadPlaceAt es order i → ⊥
good_place es order i n seen at z small stands unmet f b = go b.1
  where
    go : IsNoPositive es (label_at order i) ⊎ Contains (take i order) (label_at order i) → ⊥
    go (inl p) = let q : legs_with (pos n) es ≡ 0 = subst (IsNoPositive es) at p in absurd (omega (arith, q, stands))
    go (inr c) = false≢true (sym unmet ∙ (f.met n z small).1 (subst (Contains (take i order)) at c))

-- and one that is not new is a bad place
pub bad_place : (es : List End) → All HasLabel es → (order : List ℤ) (i : ℕ) (seen : List Bool) → i < length order → IsSeen (take i order) seen →
    ((n : ℕ) → 0 < n → n ≤ 1024 → label_at order i ≡ pos n → 0 < legs_with (pos n) es → get_or seen n false ≡ false → ⊥) → BadPlaceAt es order i
bad_place es h order i seen l f none = (l, go (label_at order i) refl)
  where
    go : (x : ℤ) → label_at order i ≡ x → IsNoPositive es (label_at order i) ⊎ Contains (take i order) (label_at order i)
    go (negsuc n) e = inl (subst (IsNoPositive es) (sym e) tt)
    go (pos n) e = by (cases_eq (legs_with (pos n) es) 0)
      where
        range : legs_with (pos n) es ≢ 0 → (0 < n) × (n ≤ 1024)
        range s = (low (cases_eq n 0), high (cases_lt 1024 n))
          where
            low : (n ≡ 0) ⊎ (n ≢ 0) → 0 < n
            low (inl z) = absurd (s (ap (λ k. legs_with (pos k) es) z ∙ none_zero es h))
            low (inr z) = omega arith

            high : (1024 < n) ⊎ (n ≤ 1024) → n ≤ 1024
            high (inl g) = absurd (s (none_above es h n g))
            high (inr g) = g

        met : legs_with (pos n) es ≢ 0 → (b : Bool) → get_or seen n false ≡ b → Contains (take i order) (label_at order i)
        met s true m = subst (Contains (take i order)) (sym e) ((f.met n (range s).0 (range s).1).0 m)
        met s false m = absurd (none n (range s).0 (range s).1 e (omega arith) m)

        by : (legs_with (pos n) es ≡ 0) ⊎ (legs_with (pos n) es ≢ 0) → IsNoPositive es (label_at order i) ⊎ Contains (take i order) (label_at order i)
        by (inl z) = inl (subst (IsNoPositive es) (sym e) z)
        by (inr s) = inr (met s (get_or seen n false) refl)

-- what is no number of a label that stands is no positive label
pub no_positive : (es : List End) → All HasLabel es → (l : ℤ) → ((n : ℕ) → 0 < n → n ≤ 1024 → l ≡ pos n → ⊥) → IsNoPositive es l
no_positive es h (negsuc n) none = tt
no_positive es h (pos n) none = by (cases_eq n 0) (cases_lt 1024 n)
  where
    by : (n ≡ 0) ⊎ (n ≢ 0) → (1024 < n) ⊎ (n ≤ 1024) → legs_with (pos n) es ≡ 0
    by (inl z) q = ap (λ k. legs_with (pos k) es) z ∙ none_zero es h
    by (inr z) (inl g) = none_above es h n g
    by (inr z) (inr g) = absurd (none n (omega (arith, z)) g refl)

-- at the end: a label that stands and was not met is lacking
pub lacking : (es : List End) (order : List ℤ) (seen : List Bool) → IsSeen order seen →
    (n : ℕ) × (0 < n) × (n ≤ 1024) × (0 < legs_with (pos n) es) × (get_or seen n false ≡ false) → LacksLabel es order
lacking es order seen f w = (w.0, w.3, (λ c. false≢true (sym w.4 ∙ (f.met w.0 w.1 w.2).1 c)))

pub not_lacking : (es : List End) → All HasLabel es → (order : List ℤ) (seen : List Bool) → IsSeen order seen →
    ((n : ℕ) × (0 < n) × (n ≤ 1024) × (0 < legs_with (pos n) es) × (get_or seen n false ≡ false) → ⊥) → LacksLabel es order → ⊥
not_lacking es h order seen f none w = go (cases_eq w.0 0) (cases_lt 1024 w.0) (get_or seen w.0 false) refl
  where
    go : (w.0 ≡ 0) ⊎ (w.0 ≢ 0) → (1024 < w.0) ⊎ (w.0 ≤ 1024) → (b : Bool) → get_or seen w.0 false ≡ b → ⊥
    go (inl z) q b m = let e = ap (λ k. legs_with (pos k) es) z ∙ none_zero es h in absurd (omega (arith, e, w.1))
    go (inr z) (inl q) b m = let e = none_above es h w.0 q in absurd (omega (arith, e, w.1))
    go (inr z) (inr q) true m = w.2 ((f.met w.0 (omega arith) q).0 m)
    go (inr z) (inr q) false m = none (w.0, omega arith, q, w.1, m)

pub good_all : (es : List End) (order : List ℤ) (i : ℕ) → length order ≤ i → ((k : ℕ) → k < i → BadPlaceAt es order k → ⊥) → HasNone (BadPlaceAt es order)
good_all es order i l h k b = h k (omega (arith, b.0, l)) b

pub seen_all : (order : List ℤ) (i : ℕ) (seen : List Bool) → length order ≤ i → IsSeen (take i order) seen → IsSeen order seen
seen_all order i seen l f = subst (λ xs. IsSeen xs seen) (take_all i order l) f
