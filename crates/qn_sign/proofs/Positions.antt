-- Words of positions: their order, and that their permutations are the lists in which each stands once.
use Rattle.std.proofs.Common.{◌≡◌, ◌==◌, ◌<◌, ◌≤◌, ℕ, zero, suc, ◌+◌, ◌-◌, Bool, true, false, not, ◌&&◌, ◌||◌, List, [], ◌∷◌, ◌++◌, refl, sym, ◌∙◌, ap, ap₂, subst, map, filter, length, get_or, All, append-nil, take, drop, count_by, nat_lt, arith}
use mathlib.Core.Bool.{beq}
use Rattle.std.specs.List.{range_with_len}
use Rattle.std.proofs.lemmas.Bool.{or_left, or_right, eq-eqb, eqb-true, lt-ltb, false≢true}
use Rattle.std.proofs.lemmas.Bool.Decides.{nat_tests}
use Rattle.std.proofs.lemmas.List.{length-append, take_more}
use Rattle.std.proofs.Math.Seq.{take-length}
use Rattle.std.proofs.lemmas.List.FromFn.{length-range_with_len}
use Rattle.qn_sign.specs.Sign.{is_in, stands_before, exchanges, exchange_sign, block_parity, xor, IsTest, IsDistinct, Perm}
use Rattle.qn_sign.specs.Sign.Perm.{none, keep, swap, then_by}
use Rattle.qn_sign.specs.Positions.{positions, is_odd_at, IsOrder}
use Rattle.qn_sign.specs.ExchangeLaws.{PositionsStandForThings, OrdersArePermutations}
use Rattle.qn_sign.proofs.Parity.{is_odd-add, is_odd-count, tally-append, tally-and, xor_assoc, xor_beq, xor_false}
use Rattle.qn_sign.proofs.SignLaws.{turned, tally-congr}
use Rattle.qn_sign.proofs.Order.{is_in-perm, same_symm, distinct-perm, apart_by}
use Rattle.qn_sign.proofs.Members.{perm_pick}
use Rattle.qn_sign.proofs.Names.{names_do_not_matter, other_parities_do_not_matter}

pub nat_test : IsTest ◌==◌
nat_test = record { itself = λ x. eq-eqb x x refl; equal = λ x y e. eqb-true x y e }

-- the positions stand in their order
pub before-positions : (a n x y : ℕ) → a ≤ x → a ≤ y → x < a + n → y < a + n → stands_before ◌==◌ (range_with_len a n) x y ≡ nat_lt x y
before-positions a zero x y h k l m = absurd (omega arith)
before-positions a (suc n) x y h k l m =
    go (y == a) refl (x == a) refl (λ h' k'. before-positions (a + 1) n x y h' k' (omega arith) (omega arith))
  where
    go : (b : Bool) → (y == a) ≡ b → (c : Bool) → (x == a) ≡ c →
        (a + 1 ≤ x → a + 1 ≤ y → stands_before ◌==◌ (range_with_len (a + 1) n) x y ≡ nat_lt x y) →
        (not b && (c || stands_before ◌==◌ (range_with_len (a + 1) n) x y)) ≡ nat_lt x y
    go true e c f ih = let at : y ≡ a = eqb-true y a e in grind (arith, nat_tests)
    go false e true f ih =
        let at : x ≡ a = eqb-true x a f in let lt : a < y = grind (arith, nat_tests) in sym (lt-ltb x y (omega arith))
    go false e false f ih = ih (grind (arith, nat_tests)) (grind (arith, nat_tests))

pub is_in-positions : (a n x : ℕ) → a ≤ x → x < a + n → is_in ◌==◌ x (range_with_len a n) ≡ true
is_in-positions a zero x h k = absurd (omega arith)
is_in-positions a (suc n) x h k = go (x == a) refl (λ l. is_in-positions (a + 1) n x l (omega arith))
  where
    go : (b : Bool) → (x == a) ≡ b → (a + 1 ≤ x → is_in ◌==◌ x (range_with_len (a + 1) n) ≡ true) → (b || is_in ◌==◌ x (range_with_len (a + 1) n)) ≡ true
    go true e ih = refl
    go false e ih = ih (grind (arith, nat_tests))

pub within_positions : (a n x : ℕ) → is_in ◌==◌ x (range_with_len a n) ≡ true → (a ≤ x) × (x < a + n)
within_positions a zero x h = absurd (false≢true h)
within_positions a (suc n) x h = go (x == a) refl (within_positions (a + 1) n x) h
  where
    go : (b : Bool) → (x == a) ≡ b → (is_in ◌==◌ x (range_with_len (a + 1) n) ≡ true → (a + 1 ≤ x) × (x < a + 1 + n)) →
        (b || is_in ◌==◌ x (range_with_len (a + 1) n)) ≡ true → (a ≤ x) × (x < a + suc n)
    go true e ih k = let at : x ≡ a = eqb-true x a e in (omega arith, omega arith)
    go false e ih k = let r : (a + 1 ≤ x) × (x < a + 1 + n) = ih k in (omega (arith, r.0), omega (arith, r.1))

positions_distinct : (a n : ℕ) → IsDistinct ◌==◌ (range_with_len a n)
positions_distinct a zero = tt
positions_distinct a (suc n) = (go (is_in ◌==◌ a (range_with_len (a + 1) n)) refl, positions_distinct (a + 1) n)
  where
    go : (b : Bool) → is_in ◌==◌ a (range_with_len (a + 1) n) ≡ b → b ≡ false
    go false e = refl
    go true e = let r : (a + 1 ≤ a) × (a < a + 1 + n) = within_positions (a + 1) n a e in absurd (omega (arith, r.0))

pub length-perm : {E : Type 0} {xs ys : List E} → Perm xs ys → length xs ≡ length ys
length-perm none = refl
length-perm (keep p) = ap suc (length-perm p)
length-perm swap = refl
length-perm (then_by p q) = length-perm p ∙ length-perm q

-- what stands at an index is in the list
pub is_in-at : {E : Type 0} (same : E → E → Bool) (law : IsTest same) (xs : List E) (k : ℕ) (d : E) → k < length xs → is_in same (get_or xs k d) xs ≡ true
is_in-at same law [] k d h = absurd (omega arith)
is_in-at same law (x ∷ xs) zero d h = or_left (same x x) (is_in same x xs) (law.itself x)
is_in-at same law (x ∷ xs) (suc k) d h = or_right (same (get_or xs k d) x) (is_in same (get_or xs k d) xs) (is_in-at same law xs k d (omega arith))

-- what is in a list whose elements all pass
all-is_in : (n : ℕ) (xs : List ℕ) (x : ℕ) → All (λ k. k < n) xs → is_in ◌==◌ x xs ≡ true → x < n
all-is_in n [] x h k = absurd (false≢true k)
all-is_in n (z ∷ zs) x h k = go (x == z) refl (all-is_in n zs x (λ i d l. h (suc i) d (omega arith))) k
  where
    go : (b : Bool) → (x == z) ≡ b → (is_in ◌==◌ x zs ≡ true → x < n) → (b || is_in ◌==◌ x zs) ≡ true → x < n
    go true e ih l = subst (λ w. w < n) (sym (eqb-true x z e)) (h 0 0 (omega arith))
    go false e ih l = ih l

-- things at different positions of a list with no repeats differ
at-apart : {E : Type 0} (same : E → E → Bool) (law : IsTest same) (xs : List E) (d : E) → IsDistinct same xs → (i j : ℕ) →
    i < length xs → j < length xs → (i ≡ j → ⊥) → same (get_or xs i d) (get_or xs j d) ≡ false
at-apart same law [] d u i j h k ne = absurd (omega arith)
at-apart same law (x ∷ xs) d u zero zero h k ne = absurd (ne refl)
at-apart same law (x ∷ xs) d u zero (suc j) h k ne =
    same_symm same law (get_or xs j d) x (apart_by same law (get_or xs j d) x xs (is_in-at same law xs j d (omega arith)) u.0)
at-apart same law (x ∷ xs) d u (suc i) zero h k ne =
    apart_by same law (get_or xs i d) x xs (is_in-at same law xs i d (omega arith)) u.0
at-apart same law (x ∷ xs) d u (suc i) (suc j) h k ne =
    at-apart same law xs d u.1 i j (omega arith) (omega arith) (λ e. ne (ap suc e))

at-same : {E : Type 0} (same : E → E → Bool) (law : IsTest same) (xs : List E) (d : E) → IsDistinct same xs → (i j : ℕ) →
    i < length xs → j < length xs → same (get_or xs i d) (get_or xs j d) ≡ (i == j)
at-same same law xs d u i j h k = go (i == j) refl
  where
    go : (b : Bool) → (i == j) ≡ b → same (get_or xs i d) (get_or xs j d) ≡ b
    go true e = subst (λ l. same (get_or xs i d) (get_or xs l d) ≡ true) (eqb-true i j e) (law.itself (get_or xs i d))
    go false e = at-apart same law xs d u i j h k (λ f. false≢true (sym e ∙ eq-eqb i j f))

-- the things at the positions are the list
map-positions : {E : Type 0} (xs : List E) (d : E) → map (λ i. get_or xs i d) (positions (length xs)) ≡ xs
map-positions {E} xs d = from xs (λ i. get_or xs i d) 0 (λ i h. ap (λ k. get_or xs k d) (omega arith))
  where
    from : (ys : List E) (f : ℕ → E) (a : ℕ) → ((i : ℕ) → i < length ys → f (a + i) ≡ get_or ys i d) → map f (range_with_len a (length ys)) ≡ ys
    from [] f a h = refl
    from (y ∷ ys) f a h =
        ap₂ (λ z zs. z ∷ zs) (ap f (omega arith) ∙ h 0 (omega arith))
        (from ys f (a + 1) (λ i l. ap f (omega arith) ∙ h (suc i) (omega arith)))

-- the law: things may be called by their positions
pub positions_stand_for_things : {E : Type 0} (same : E → E → Bool) → IsTest same → PositionsStandForThings same
positions_stand_for_things {E} same law odd word nothing goal d within =
    ap (λ w. exchanges same odd w (map (λ i. get_or word i nothing) goal)) (sym (map-positions word nothing))
    ∙ names_do_not_matter ◌==◌ same nat_test (λ i. get_or word i nothing) odd (positions (length word)) goal
    (λ x y h k. at-same same law word nothing d x y (all-is_in (length word) goal x within h)
    (let r : (0 ≤ y) × (y < 0 + length word) = within_positions 0 (length word) y k in omega (arith, r.1)))
    ∙ other_parities_do_not_matter ◌==◌ nat_test (λ i. odd (get_or word i nothing)) (is_odd_at (map odd word)) (positions (length word)) goal
    (λ x h. sym (parity_at word x (all-is_in (length word) goal x within h)))
  where
    parity_at : (xs : List E) (i : ℕ) → i < length xs → get_or (map odd xs) i false ≡ odd (get_or xs i nothing)
    parity_at [] i h = absurd (omega arith)
    parity_at (x ∷ xs) zero h = refl
    parity_at (x ∷ xs) (suc i) h = parity_at xs i (omega arith)

-- the law: permutations of the positions
pub orders_are_permutations : OrdersArePermutations
orders_are_permutations n order = (there, back)
  where
    below : (x : ℕ) → is_in ◌==◌ x (positions n) ≡ true → x < n
    below x h = let r : (0 ≤ x) × (x < 0 + n) = within_positions 0 n x h in omega (arith, r.1)

    length-zero : (xs : List ℕ) → length xs ≡ 0 → xs ≡ []
    length-zero [] e = refl
    length-zero (x ∷ xs) e = absurd (omega arith)

    there : Perm (positions n) order → IsOrder n order
    there p = record {
      count = sym (length-perm p) ∙ length-range_with_len 0 n;
      within = λ k d h. below (get_or order k d) (is_in-perm ◌==◌ (get_or order k d) p ∙ is_in-at ◌==◌ nat_test order k d h);
      distinct = distinct-perm ◌==◌ nat_test p (positions_distinct 0 n);
    }

    rest : List ℕ
    rest = filter (λ e. not (is_in ◌==◌ e order)) (positions n)

    back : IsOrder n order → Perm (positions n) order
    back o =
        let p : Perm (positions n) (order ++ rest) =
        perm_pick ◌==◌ nat_test (positions n) order (positions_distinct 0 n) o.distinct
        (λ e h. is_in-positions 0 n e (omega arith) (let lt : e < n = all-is_in n order e o.within h in omega (arith, lt))) in
        let none_left : rest ≡ [] = length-zero rest (omega (arith, length-perm p, length-range_with_len 0 n, length-append order rest, o.count)) in
        subst (λ l. Perm (positions n) l) (ap (λ l. order ++ l) none_left ∙ append-nil order) p

-- what the program counts: the parity of the odd things at later positions that are before x in the word
exchange_step : (odd : List Bool) (n x : ℕ) (later : List ℕ) → x < n → All (λ k. k < n) later →
    exchange_sign ◌==◌ (is_odd_at odd) (positions n) (x ∷ later) ≡
    xor (is_odd_at odd x && block_parity (λ k. is_odd_at odd k && nat_lt k x) later) (exchange_sign ◌==◌ (is_odd_at odd) (positions n) later)
exchange_step odd n x later h within =
    is_odd-add (count_by (turned ◌==◌ (is_odd_at odd) (positions n) x) later) (exchanges ◌==◌ (is_odd_at odd) (positions n) later)
    ∙ ap (λ b. xor b (exchange_sign ◌==◌ (is_odd_at odd) (positions n) later))
    (is_odd-count (turned ◌==◌ (is_odd_at odd) (positions n) x) later
    ∙ tally-congr ◌==◌ nat_test (turned ◌==◌ (is_odd_at odd) (positions n) x) (λ y. is_odd_at odd x && (is_odd_at odd y && nat_lt y x)) later
    (λ y k. regroup (is_odd_at odd x) (is_odd_at odd y) (stands_before ◌==◌ (positions n) y x) (nat_lt y x)
    (let l : y < n = all-is_in n later y within k in before-positions 0 n y x (omega arith) (omega arith) (omega (arith, l)) (omega (arith, h))))
    ∙ tally-and (is_odd_at odd x) (λ y. is_odd_at odd y && nat_lt y x) later
    ∙ ap (λ b. is_odd_at odd x && b) (sym (is_odd-count (λ y. is_odd_at odd y && nat_lt y x) later)))
  where
    regroup : (a b c d : Bool) → c ≡ d → ((a && b) && c) ≡ (a && (b && d))
    regroup a b c d e = grind arith

-- the loop: the sign so far and the sign of the positions that remain make the sign of the whole
pub record IsSigned (odd : List Bool) (goal rest : List ℕ) (minus : Bool) : Type 0 where
  pub within : All (λ k. k < length odd) rest
  pub sign : xor minus (exchange_sign ◌==◌ (is_odd_at odd) (positions (length odd)) rest) ≡ exchange_sign ◌==◌ (is_odd_at odd) (positions (length odd)) goal

-- one position is taken from the front; `passes` is what it adds to the sign
signed_step : (odd : List Bool) (goal : List ℕ) (x : ℕ) (later : List ℕ) (minus : Bool) → IsSigned odd goal (x ∷ later) minus →
    IsSigned odd goal later (xor minus (is_odd_at odd x && block_parity (λ k. is_odd_at odd k && nat_lt k x) later))
signed_step odd goal x later minus s =
    let rest_within : All (λ k. k < length odd) later = λ k d h. s.within (suc k) d (omega arith) in
    record {
      within = rest_within;
      sign =
          xor_assoc minus (is_odd_at odd x && block_parity (λ k. is_odd_at odd k && nat_lt k x) later) (exchange_sign ◌==◌ (is_odd_at odd) (positions (length odd)) later)
          ∙ ap (xor minus) (sym (exchange_step odd (length odd) x later (s.within 0 0 (omega arith)) rest_within))
          ∙ s.sign;
    }

-- the same, as the program splits the list
pub signed_rest : (odd : List Bool) (goal rest : List ℕ) (minus passes : Bool) → 0 < length rest → IsSigned odd goal rest minus →
    passes ≡ (is_odd_at odd (get_or rest 0 0) && block_parity (λ k. is_odd_at odd k && nat_lt k (get_or rest 0 0)) (take (length rest - 1) (drop 1 rest))) →
    IsSigned odd goal (take (length rest - 1) (drop 1 rest)) (xor minus passes)
signed_rest odd goal [] minus passes h s e = absurd (omega arith)
signed_rest odd goal (x ∷ later) minus passes h s e =
    let whole : take (length (x ∷ later) - 1) later ≡ later = ap (λ n. take n later) (omega arith) ∙ take-length later in
    subst (λ l. IsSigned odd goal l (xor minus passes)) (sym whole)
    (subst (λ b. IsSigned odd goal later (xor minus b))
    (sym (e ∙ ap (λ l. is_odd_at odd x && block_parity (λ k. is_odd_at odd k && nat_lt k x) l) whole))
    (signed_step odd goal x later minus s))

-- one element more
pub block_parity_more : {A : Type 0} (p : A → Bool) (xs : List A) (i : ℕ) (d : A) (before here : Bool) → i < length xs →
    before ≡ block_parity p (take i xs) → here ≡ p (get_or xs i d) → not (beq before here) ≡ block_parity p (take (i + 1) xs)
block_parity_more p xs i d before here h e f =
    sym (xor_beq before here)
    ∙ ap₂ xor (e ∙ is_odd-count p (take i xs)) (f ∙ sym (xor_false (p (get_or xs i d))))
    ∙ sym (tally-append p (take i xs) (get_or xs i d ∷ []))
    ∙ sym (is_odd-count p (take i xs ++ get_or xs i d ∷ []))
    ∙ ap (block_parity p) (sym (take_more xs i d h))
