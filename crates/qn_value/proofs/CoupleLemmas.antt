-- Couples of places, and the labels that they get.
use Rattle.std.proofs.Common.{◌≡◌, ◌≤◌, ◌<◌, ℕ, zero, suc, ◌+◌, ◌==◌, Bool, true, false, not, ◌||◌, cond, List, [], ◌∷◌, refl, sym, ◌∙◌, ap, ap₂, subst, count_by, ◌⊎◌, inl, inr, eqb-true, eq-eqb, eq-or-lt_of_le, zero-add, nat_lt, arith}
use Rattle.std.specs.List.{All, range_with_len}
use Rattle.std.proofs.lemmas.List.Sums.{sum_by-cons}
use Rattle.std.proofs.lemmas.Bool.Decides.{nat_tests}
use Rattle.std.proofs.lemmas.Bool.{or_cases, or_left, or_right, false≢true}
use Rattle.qn_sign.specs.Sign.{is_in, IsDistinct}
use Rattle.qn_sign.specs.Positions.{positions}
use Rattle.qn_value.specs.Local.{places_of, is_coupled, couple_number}

-- the first couple in which a place stands, and the other place of a couple
abbrev pub couple_at : List (ℕ × ℕ) → ℕ → ℕ × ℕ
couple_at [] i = (0, 0)
couple_at (c ∷ cs) i = cond ((i == c.0) || (i == c.1)) c (couple_at cs i)

abbrev pub other : ℕ → ℕ × ℕ → ℕ
other i c = cond (i == c.0) c.1 c.0

pub number_from : (n : ℕ) (cs : List (ℕ × ℕ)) (i : ℕ) → n ≤ couple_number n cs i
number_from n [] i = omega arith
number_from n (c ∷ cs) i = go ((i == c.0) || (i == c.1)) (number_from (suc n) cs i)
  where
    go : (b : Bool) → suc n ≤ couple_number (suc n) cs i → n ≤ cond b n (couple_number (suc n) cs i)
    go true l = omega arith
    go false l = omega (arith, l)

-- a place in couples is in the first of them or in the others
coupled_cases : (c : ℕ × ℕ) (cs : List (ℕ × ℕ)) (i : ℕ) → is_coupled (c ∷ cs) i ≡ true → ((i == c.0) || (i == c.1)) ≡ false → is_coupled cs i ≡ true
coupled_cases c cs i h e = go (i == c.0) (i == c.1) (is_coupled cs i) h e
  where
    go : (a b d : Bool) → (a || (b || d)) ≡ true → (a || b) ≡ false → d ≡ true
    go a b d h e = grind arith

-- the place is one of its couple
pub stands_in : (cs : List (ℕ × ℕ)) (i : ℕ) → is_coupled cs i ≡ true → (i ≡ (couple_at cs i).0) ⊎ (i ≡ (couple_at cs i).1)
stands_in [] i h = absurd (false≢true h)
stands_in (c ∷ cs) i h = go ((i == c.0) || (i == c.1)) refl (stands_in cs i)
  where
    go : (b : Bool) → ((i == c.0) || (i == c.1)) ≡ b → (is_coupled cs i ≡ true → (i ≡ (couple_at cs i).0) ⊎ (i ≡ (couple_at cs i).1)) →
        (i ≡ (cond b c (couple_at cs i)).0) ⊎ (i ≡ (cond b c (couple_at cs i)).1)
    go true e ih = by (or_cases (i == c.0) (i == c.1) e)
      where
        by : ((i == c.0) ≡ true) ⊎ ((i == c.1) ≡ true) → (i ≡ c.0) ⊎ (i ≡ c.1)
        by (inl f) = inl (eqb-true i c.0 f)
        by (inr f) = inr (eqb-true i c.1 f)
    go false e ih = ih (coupled_cases c cs i h e)

pub couple_passes : (P : ℕ × ℕ → Type 0) (cs : List (ℕ × ℕ)) (i : ℕ) → All P cs → is_coupled cs i ≡ true → P (couple_at cs i)
couple_passes P [] i a h = absurd (false≢true h)
couple_passes P (c ∷ cs) i a h = go ((i == c.0) || (i == c.1)) refl (couple_passes P cs i (λ k d l. a (suc k) d (omega arith)))
  where
    go : (b : Bool) → ((i == c.0) || (i == c.1)) ≡ b → (is_coupled cs i ≡ true → P (couple_at cs i)) → P (cond b c (couple_at cs i))
    go true e ih = a 0 c (omega arith)
    go false e ih = ih (coupled_cases c cs i h e)

-- places with one number stand in one couple
pub one_couple : (n : ℕ) (cs : List (ℕ × ℕ)) (i j : ℕ) → is_coupled cs i ≡ true → is_coupled cs j ≡ true → couple_number n cs i ≡ couple_number n cs j → couple_at cs i ≡ couple_at cs j
one_couple n [] i j h k e = absurd (false≢true h)
one_couple n (c ∷ cs) i j h k e =
    go ((i == c.0) || (i == c.1)) refl ((j == c.0) || (j == c.1)) refl e (number_from (suc n) cs i) (number_from (suc n) cs j) (one_couple (suc n) cs i j)
  where
    go : (a : Bool) → ((i == c.0) || (i == c.1)) ≡ a → (b : Bool) → ((j == c.0) || (j == c.1)) ≡ b →
        cond a n (couple_number (suc n) cs i) ≡ cond b n (couple_number (suc n) cs j) → suc n ≤ couple_number (suc n) cs i → suc n ≤ couple_number (suc n) cs j →
        (is_coupled cs i ≡ true → is_coupled cs j ≡ true → couple_number (suc n) cs i ≡ couple_number (suc n) cs j → couple_at cs i ≡ couple_at cs j) →
        cond a c (couple_at cs i) ≡ cond b c (couple_at cs j)
    go true p true q f l m ih = refl
    go true p false q f l m ih = absurd (omega (arith, f, m))
    go false p true q f l m ih = absurd (omega (arith, f, l))
    go false p false q f l m ih = ih (coupled_cases c cs i h p) (coupled_cases c cs j k q) f

-- the other place of a couple has the same number
pub record IsPartner (n : ℕ) (cs : List (ℕ × ℕ)) (i j : ℕ) : Type 0 where
  pub coupled : is_coupled cs j ≡ true
  pub number : couple_number n cs j ≡ couple_number n cs i

in_couple : (c : ℕ × ℕ) (i : ℕ) → ((i == c.0) || (i == c.1)) ≡ true → ((other i c == c.0) || (other i c == c.1)) ≡ true
in_couple c i h = go (i == c.0)
  where
    go : (b : Bool) → ((cond b c.1 c.0 == c.0) || (cond b c.1 c.0 == c.1)) ≡ true
    go true = or_right (c.1 == c.0) (c.1 == c.1) (eq-eqb c.1 c.1 refl)
    go false = or_left (c.0 == c.0) (c.0 == c.1) (eq-eqb c.0 c.0 refl)

-- a place of other couples is not in this one
pub not_here : (c : ℕ × ℕ) (cs : List (ℕ × ℕ)) (j : ℕ) → IsDistinct ◌==◌ (places_of (c ∷ cs)) → is_coupled cs j ≡ true → ((j == c.0) || (j == c.1)) ≡ false
not_here c cs j d k = go (j == c.0) refl (j == c.1) refl
  where
    second : (a b : Bool) → (a || b) ≡ false → b ≡ false
    second a b e = grind arith

    go : (a : Bool) → (j == c.0) ≡ a → (b : Bool) → (j == c.1) ≡ b → (a || b) ≡ false
    go true e b f =
        let at : is_in ◌==◌ c.0 (places_of cs) ≡ true = subst (λ x. is_in ◌==◌ x (places_of cs) ≡ true) (eqb-true j c.0 e) k in
        absurd (false≢true (sym (second (c.0 == c.1) (is_in ◌==◌ c.0 (places_of cs)) d.0) ∙ at))
    go false e true f =
        let at : is_in ◌==◌ c.1 (places_of cs) ≡ true = subst (λ x. is_in ◌==◌ x (places_of cs) ≡ true) (eqb-true j c.1 f) k in
        absurd (false≢true (sym d.1.0 ∙ at))
    go false e false f = refl

pub partner : (n : ℕ) (cs : List (ℕ × ℕ)) (i : ℕ) → IsDistinct ◌==◌ (places_of cs) → is_coupled cs i ≡ true → IsPartner n cs i (other i (couple_at cs i))
partner n [] i d h = absurd (false≢true h)
partner n (c ∷ cs) i d h = let r = go ((i == c.0) || (i == c.1)) refl (partner (suc n) cs i d.1.1) in record { coupled = r.0; number = r.1 }
  where
    go : (b : Bool) → ((i == c.0) || (i == c.1)) ≡ b → (is_coupled cs i ≡ true → IsPartner (suc n) cs i (other i (couple_at cs i))) →
        (is_coupled (c ∷ cs) (other i (cond b c (couple_at cs i))) ≡ true)
        × (couple_number n (c ∷ cs) (other i (cond b c (couple_at cs i))) ≡ cond b n (couple_number (suc n) cs i))
    go true e ih =
        let f : ((other i c == c.0) || (other i c == c.1)) ≡ true = in_couple c i e in
        (joined (other i c == c.0) (other i c == c.1) (is_coupled cs (other i c)) f, ap (λ b. cond b n (couple_number (suc n) cs (other i c))) f)
      where
        joined : (a b d : Bool) → (a || b) ≡ true → (a || (b || d)) ≡ true
        joined a b d e = grind arith
    go false e ih =
        let p : IsPartner (suc n) cs i (other i (couple_at cs i)) = ih (coupled_cases c cs i h e) in
        let j : ℕ = other i (couple_at cs i) in (
          or_right (j == c.0) ((j == c.1) || is_coupled cs j) (or_right (j == c.1) (is_coupled cs j) p.coupled),
          ap (λ b. cond b n (couple_number (suc n) cs j)) (not_here c cs j d p.coupled) ∙ p.number,
        )

-- the number of open places before a place

abbrev pub open_before : List (ℕ × ℕ) → ℕ → ℕ
open_before cs i = count_by (λ j. not (is_coupled cs j)) (positions i)

pub count-cons : (p : ℕ → Bool) (x : ℕ) (xs : List ℕ) → count_by p (x ∷ xs) ≡ cond (p x) 1 0 + count_by p xs
count-cons p x xs = sum_by-cons (λ y. cond (p y) 1 0) x xs

count-last : (p : ℕ → Bool) (a n : ℕ) → count_by p (range_with_len a (suc n)) ≡ count_by p (range_with_len a n) + cond (p (a + n)) 1 0
count-last p a zero = count-cons p a [] ∙ turn (cond (p a) 1 0) (cond (p (a + 0)) 1 0) (ap (λ k. cond (p k) 1 0) plain)
  where
    plain : a ≡ a + 0
    plain = omega arith

    turn : (x y : ℕ) → x ≡ y → x + 0 ≡ 0 + y
    turn x y e = omega (arith, e)
count-last p a (suc n) =
    count-cons p a (range_with_len (a + 1) (suc n))
    ∙ ap (λ k. cond (p a) 1 0 + k) (count-last p (a + 1) n)
    ∙ group (cond (p a) 1 0) (count_by p (range_with_len (a + 1) n)) (cond (p (a + 1 + n)) 1 0)
    ∙ ap₂ ◌+◌ (sym (count-cons p a (range_with_len (a + 1) n))) (ap (λ k. cond (p k) 1 0) next)
  where
    group : (x y z : ℕ) → x + (y + z) ≡ (x + y) + z
    group x y z = omega arith

    next : a + 1 + n ≡ a + suc n
    next = omega arith

pub open_step : (cs : List (ℕ × ℕ)) (i : ℕ) → open_before cs (suc i) ≡ open_before cs i + cond (is_coupled cs i) 0 1
open_step cs i = count-last (λ j. not (is_coupled cs j)) 0 i ∙ ap (λ k. open_before cs i + k) (ap (λ k. cond (not (is_coupled cs k)) 1 0) (zero-add i) ∙ turn (is_coupled cs i))
  where
    turn : (b : Bool) → ◌≡◌ {A = ℕ} (cond (not b) 1 0) (cond b 0 1)
    turn true = refl
    turn false = refl

pub open_grows : (cs : List (ℕ × ℕ)) (i j : ℕ) → is_coupled cs i ≡ false → i < j → open_before cs i < open_before cs j
open_grows cs i zero h l = absurd (omega arith)
open_grows cs i (suc j) h l = by (eq-or-lt_of_le below) (open_grows cs i j h)
  where
    below : i ≤ j
    below = omega arith

    by : (i ≡ j) ⊎ (i < j) → (i < j → open_before cs i < open_before cs j) → open_before cs i < open_before cs (suc j)
    by (inl e) ih =
        let step : open_before cs (suc i) ≡ open_before cs i + 1 = open_step cs i ∙ ap (λ b. open_before cs i + cond b 0 1) h in
        subst (λ k. open_before cs i < open_before cs (suc k)) e (omega (arith, step))
    by (inr k) ih = let less : open_before cs i < open_before cs j = ih k in omega (arith, less, open_step cs j)

-- each number of open places is that before an open place
pub open_found : (cs : List (ℕ × ℕ)) (n k : ℕ) → k < open_before cs n → (i : ℕ) × (i < n) × (is_coupled cs i ≡ false) × (open_before cs i ≡ k)
open_found cs zero k l = absurd (omega (arith, l))
open_found cs (suc n) k l = go (is_coupled cs n) refl (eq-or-lt-cases k (open_before cs n)) (open_found cs n k)
  where
    eq-or-lt-cases : (a b : ℕ) → (a < b) ⊎ (b ≤ a)
    eq-or-lt-cases a b = by (nat_lt a b) refl
      where
        by : (t : Bool) → nat_lt a b ≡ t → (a < b) ⊎ (b ≤ a)
        by true e = inl (grind (arith, nat_tests))
        by false e = inr (grind (arith, nat_tests))

    more : (x : (i : ℕ) × (i < n) × (is_coupled cs i ≡ false) × (open_before cs i ≡ k)) → (i : ℕ) × (i < suc n) × (is_coupled cs i ≡ false) × (open_before cs i ≡ k)
    more x = (x.0, omega (arith, x.1), x.2, x.3)

    go : (b : Bool) → is_coupled cs n ≡ b → (k < open_before cs n) ⊎ (open_before cs n ≤ k) →
        (k < open_before cs n → (i : ℕ) × (i < n) × (is_coupled cs i ≡ false) × (open_before cs i ≡ k)) →
        (i : ℕ) × (i < suc n) × (is_coupled cs i ≡ false) × (open_before cs i ≡ k)
    go b e (inl m) ih = more (ih m)
    go true e (inr m) ih =
        let step : open_before cs (suc n) ≡ open_before cs n + 0 = open_step cs n ∙ ap (λ b. open_before cs n + cond b 0 1) e in
        absurd (omega (arith, step, l, m))
    go false e (inr m) ih =
        let step : open_before cs (suc n) ≡ open_before cs n + 1 = open_step cs n ∙ ap (λ b. open_before cs n + cond b 0 1) e in
        (n, omega arith, e, omega (arith, step, l, m))
