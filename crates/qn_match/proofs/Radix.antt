-- Numbers by their digits: equal numbers have equal digits, and how many there are.
use Rattle.std.proofs.Common.{◌≡◌, ◌≢◌, ◌≤◌, ◌<◌, ◌+◌, ◌*◌, ◌%◌, ◌/◌, ◌==◌, ◌&&◌, ◌||◌, ℕ, Bool, true, false, cond, zero, suc, List, [], ◌∷◌, length, map, get_or, arith, refl, sym, ap, ap₂, subst, ◌∙◌, ◌⊎◌, inl, inr}
use Rattle.std.specs.List.{All, range_with_len}
use Rattle.std.proofs.Math.Nat.{mul-le-mul_left, mul_comm}
use Rattle.std.proofs.lemmas.Bool.Decides.{eqb_tells}
use Rattle.std.proofs.lemmas.Nat.{div-mul-add, mod-mul-add}
use Rattle.std.proofs.lemmas.List.{get_or-map, length-map}
use Rattle.std.proofs.lemmas.List.Elements.{All-tail, All-cons}
use Rattle.qn_sign.specs.Sign.{is_in, IsDistinct}
use Rattle.qn_index.specs.Legs.{LegValue, IsSound, sector_at}
use Rattle.qn_index.specs.Tuples.{IsTuple, count}
use Rattle.qn_index.specs.Places.{block_size}
use Rattle.qn_index.proofs.Nets.{tuple_at, tuple_length}
use Rattle.qn_value.specs.Local.{no_leg}
use Rattle.qn_match.specs.Pairs.{is_first, marks, unmarked, first_left, agree}
use Rattle.qn_match.specs.Keys.{bases_of, digits_of, AreDigits, number, numbers}
use Rattle.qn_match.specs.Shares.{shared_size}
use Rattle.qn_match.proofs.Lefts.{all_unmarked}

-- ---- equal numbers have equal digits

two_digits : (n x y a b : ℕ) → x < n → y < n → (x + n * a == y + n * b) ≡ ((y == x) && (a == b))
two_digits n x y a b lx ly = by (eqb_tells (x + n * a) (y + n * b)) (eqb_tells y x) (eqb_tells a b)
  where
    low : (c d : ℕ) → c < n → (c + n * d) % n ≡ c
    low c d lt = let e : c + n * d ≡ d * n + c = omega (arith, mul_comm n d) in ap (λ k. k % n) e ∙ mod-mul-add d n c lt

    high : (c d : ℕ) → c < n → (c + n * d) / n ≡ d
    high c d lt = let e : c + n * d ≡ d * n + c = omega (arith, mul_comm n d) in ap (λ k. k / n) e ∙ div-mul-add d n c lt

    by : ((x + n * a == y + n * b) ≡ true) × (x + n * a ≡ y + n * b) ⊎ ((x + n * a == y + n * b) ≡ false) × (x + n * a ≢ y + n * b) →
        ((y == x) ≡ true) × (y ≡ x) ⊎ ((y == x) ≡ false) × (y ≢ x) → ((a == b) ≡ true) × (a ≡ b) ⊎ ((a == b) ≡ false) × (a ≢ b) → (x + n * a == y + n * b) ≡ ((y == x) && (a == b))
    by (inl p) (inl q) (inl r) = p.0 ∙ ap₂ (λ s t. s && t) (sym q.0) (sym r.0)
    by (inl p) (inl q) (inr r) = absurd (r.1 (sym (high x a lx) ∙ (ap (λ k. k / n) p.1 ∙ high y b ly)))
    by (inl p) (inr q) r = absurd (q.1 (sym (low y b ly) ∙ (ap (λ k. k % n) (sym p.1) ∙ low x a lx)))
    by (inr p) (inl q) (inl r) = absurd (p.1 (ap₂ (λ s t. s + n * t) (sym q.1) r.1))
    by (inr p) (inl q) (inr r) = p.0 ∙ ap₂ (λ s t. s && t) (sym q.0) (sym r.0)
    by (inr p) (inr q) r = p.0 ∙ ap (λ s. s && (a == b)) (sym q.0)

-- two tuples have one key exactly where they agree on the shared legs
pub key_agrees : (ns : List ℕ) (shared : List (ℕ × ℕ)) (t u : List ℕ) → AreDigits ns (digits_of (map (λ p. p.0) shared) t) → AreDigits ns (digits_of (map (λ p. p.1) shared) u) →
    (number ns (digits_of (map (λ p. p.1) shared) u) == number ns (digits_of (map (λ p. p.0) shared) t)) ≡ agree shared t u
key_agrees [] [] t u a b = refl
key_agrees [] (p ∷ ps) t u a b = absurd (none a)
  where
    none : {x : ℕ} {xs : List ℕ} → x ∷ xs ≡ [] → ⊥
    none {x} {xs} e = let n : suc (length xs) ≡ 0 = ap (λ ys. length ys) e in absurd (omega arith)
key_agrees (n ∷ ns) [] t u a b = absurd a
key_agrees (n ∷ ns) (p ∷ ps) t u a b =
    two_digits n (get_or u p.1 0) (get_or t p.0 0) (number ns (digits_of (map (λ p. p.1) ps) u)) (number ns (digits_of (map (λ p. p.0) ps) t)) b.0 a.0
    ∙ ap (λ s. (get_or t p.0 0 == get_or u p.1 0) && s) (key_agrees ns ps t u a.1 b.1)

pub number_below : (ns xs : List ℕ) → AreDigits ns xs → number ns xs < numbers ns
number_below [] xs h = omega arith
number_below (n ∷ ns) [] h = absurd h
number_below (n ∷ ns) (x ∷ xs) h =
    let le : n * suc (number ns xs) ≤ n * numbers ns = mul-le-mul_left n (number_below ns xs h.1) in
    let e : n * suc (number ns xs) ≡ n + n * number ns xs = more n (number ns xs) in
    omega (arith, le, e, h.0)
  where
    more : (a b : ℕ) → a * suc b ≡ a + a * b
    more a b = grind arith

-- ---- the sectors of the shared legs are digits

pub first_digits : (shared : List (ℕ × ℕ)) (ks : List LegValue) (t : List ℕ) → All (λ p. p.0 < length ks) shared → IsTuple ks t → AreDigits (bases_of shared ks) (digits_of (map (λ p. p.0) shared) t)
first_digits [] ks t h v = refl
first_digits (p ∷ ps) ks t h v = (tuple_at ks t p.0 no_leg v (h 0 p (omega arith)), first_digits ps ks t (All-tail (λ q. q.0 < length ks) p ps h) v)

abbrev pub HaveSectors : List LegValue → List LegValue → ℕ × ℕ → Type 0
HaveSectors ks ls p = length (get_or ks p.0 no_leg).sectors ≡ length (get_or ls p.1 no_leg).sectors

pub second_digits : (shared : List (ℕ × ℕ)) (ks ls : List LegValue) (u : List ℕ) → All (λ p. p.1 < length ls) shared → All (HaveSectors ks ls) shared → IsTuple ls u → AreDigits (bases_of shared ks) (digits_of (map (λ p. p.1) shared) u)
second_digits [] ks ls u h e v = refl
second_digits (p ∷ ps) ks ls u h e v = (
  subst (λ n. get_or u p.1 0 < n) (sym (e 0 p (omega arith))) (tuple_at ls u p.1 no_leg v (h 0 p (omega arith))),
  second_digits ps ks ls u (All-tail (λ q. q.1 < length ls) p ps h) (All-tail (HaveSectors ks ls) p ps e) v,
)

-- ---- the product of some elements and of the others

pub not_same : (i k : ℕ) → (i ≢ k) → (i == k) ≡ false
not_same i k ne = by (eqb_tells i k)
  where
    by : ((i == k) ≡ true) × (i ≡ k) ⊎ ((i == k) ≡ false) × (i ≢ k) → (i == k) ≡ false
    by (inl p) = absurd (ne p.1)
    by (inr p) = p.0

pub is_same : (i k : ℕ) → i ≡ k → (i == k) ≡ true
is_same i k e = by (eqb_tells i k)
  where
    by : ((i == k) ≡ true) × (i ≡ k) ⊎ ((i == k) ≡ false) × (i ≢ k) → (i == k) ≡ true
    by (inl p) = p.0
    by (inr p) = absurd (p.1 e)

-- a mark below all positions changes nothing
no_others : (f : ℕ → Bool) (k a n : ℕ) → k < a → map (λ i. (i == k) || f i) (range_with_len a n) ≡ map f (range_with_len a n)
no_others f k a zero lt = refl
no_others f k a (suc n) lt = ap₂ (λ b bs. b ∷ bs) (ap (λ b. b || f a) (not_same a k (λ e. absurd (omega arith)))) (no_others f k (a + 1) n (omega arith))

-- one mark more takes one element out
mark_one : (f : ℕ → Bool) (k a : ℕ) (ds : List ℕ) (j : ℕ) → k ≡ a + j → j < length ds → f k ≡ false →
    numbers (unmarked (map f (range_with_len a (length ds))) ds) ≡ get_or ds j 1 * numbers (unmarked (map (λ i. (i == k) || f i) (range_with_len a (length ds))) ds)
mark_one f k a [] j e lt no_mark = absurd (omega arith)
mark_one f k a (d ∷ ds) zero e lt no_mark =
    let us : List ℕ = unmarked (map f (range_with_len (a + 1) (length ds))) ds in
    let vs : List ℕ = unmarked (map (λ i. (i == k) || f i) (range_with_len (a + 1) (length ds))) ds in
    let here : a ≡ k = omega arith in
    let same : vs ≡ us = ap (λ bs. unmarked bs ds) (no_others f k (a + 1) (length ds) (omega arith)) in
    ap (λ b. numbers (cond b us (d ∷ us))) (ap f here ∙ no_mark)
    ∙ sym (ap (λ b. d * numbers (cond (b || f a) vs (d ∷ vs))) (is_same a k here) ∙ ap (λ xs. d * numbers xs) same)
mark_one f k a (d ∷ ds) (suc j) e lt no_mark =
    let us : List ℕ = unmarked (map f (range_with_len (a + 1) (length ds))) ds in
    let vs : List ℕ = unmarked (map (λ i. (i == k) || f i) (range_with_len (a + 1) (length ds))) ds in
    let later : numbers us ≡ get_or ds j 1 * numbers vs = mark_one f k (a + 1) ds j (omega arith) (omega arith) no_mark in
    by (f a) us vs later ∙ ap (λ b. get_or ds j 1 * numbers (cond (b || f a) vs (d ∷ vs))) (sym (not_same a k (λ q. absurd (omega arith))))
  where
    turn : (x y z : ℕ) → x * (y * z) ≡ y * (x * z)
    turn x y z = grind arith

    by : (b : Bool) (us vs : List ℕ) → numbers us ≡ get_or ds j 1 * numbers vs → numbers (cond b us (d ∷ us)) ≡ get_or ds j 1 * numbers (cond b vs (d ∷ vs))
    by true us vs h = h
    by false us vs h = ap (λ n. d * n) h ∙ turn d (get_or ds j 1) (numbers vs)

none_marked : {A : Type 0} (f : ℕ → Bool) (a : ℕ) (xs : List A) → ((i : ℕ) → f i ≡ false) → unmarked (map f (range_with_len a (length xs))) xs ≡ xs
none_marked f a [] h = refl
none_marked f a (x ∷ xs) h = ap (λ b. cond b (unmarked (map f (range_with_len (a + 1) (length xs))) xs) (x ∷ unmarked (map f (range_with_len (a + 1) (length xs))) xs)) (h a) ∙ ap (λ ys. x ∷ ys) (none_marked f (a + 1) xs h)

first_is : (shared : List (ℕ × ℕ)) (i : ℕ) → is_first shared i ≡ is_in ◌==◌ i (map (λ p. p.0) shared)
first_is [] i = refl
first_is (p ∷ ps) i = ap (λ b. (i == p.0) || b) (first_is ps i)

-- the elements at the first places of the pairs, times the others
pub taken_out : (shared : List (ℕ × ℕ)) (ds : List ℕ) → All (λ p. p.0 < length ds) shared → IsDistinct ◌==◌ (map (λ p. p.0) shared) →
    numbers (map (λ p. get_or ds p.0 1) shared) * numbers (first_left shared ds) ≡ numbers ds
taken_out [] ds h once = let e : 1 * numbers (first_left [] ds) ≡ numbers (first_left [] ds) = omega arith in e ∙ ap numbers (none_marked (is_first []) 0 ds (λ i. refl))
taken_out (p ∷ ps) ds h once =
    let one : numbers (first_left ps ds) ≡ get_or ds p.0 1 * numbers (first_left (p ∷ ps) ds) = mark_one (is_first ps) p.0 0 ds p.0 (omega arith) (h 0 p (omega arith)) (first_is ps p.0 ∙ once.0) in
    turn (get_or ds p.0 1) (numbers (map (λ q. get_or ds q.0 1) ps)) (numbers (first_left (p ∷ ps) ds))
    ∙ (ap (λ n. numbers (map (λ q. get_or ds q.0 1) ps) * n) (sym one) ∙ taken_out ps ds (All-tail (λ q. q.0 < length ds) p ps h) once.1)
  where
    turn : (x y z : ℕ) → x * y * z ≡ y * (x * z)
    turn x y z = grind arith

-- ---- how many keys there are

positive : (ns : List ℕ) → All (λ n. 0 < n) ns → 0 < numbers ns
positive [] h = omega arith
positive (n ∷ ns) h =
    let le : numbers ns * 1 ≤ numbers ns * n = mul-le-mul_left (numbers ns) (h 0 n (omega arith)) in
    omega (arith, le, mul_comm n (numbers ns), positive ns (All-tail (λ m. 0 < m) n ns h))

-- how many sectors each leg has
abbrev lengths : List LegValue → List ℕ
lengths ks = map (λ (l : LegValue). length l.sectors) ks

some_sectors : (ks : List LegValue) → All IsSound ks → All (λ n. 0 < n) (lengths ks)
some_sectors [] h = λ k d lt. absurd (omega arith)
some_sectors (l ∷ ks) h = All-cons (λ n. 0 < n) (length l.sectors) (lengths ks) (h 0 l (omega arith)).some (some_sectors ks (All-tail IsSound l ks h))

count_is : (ks : List LegValue) → count ks ≡ numbers (lengths ks)
count_is [] = refl
count_is (l ∷ ks) = ap (λ n. length l.sectors * n) (count_is ks)

bases_are : (shared : List (ℕ × ℕ)) (ks : List LegValue) → All (λ p. p.0 < length ks) shared → bases_of shared ks ≡ map (λ p. get_or (lengths ks) p.0 1) shared
bases_are [] ks h = refl
bases_are (p ∷ ps) ks h =
    ap₂ (λ n ns. n ∷ ns) (sym (get_or-map (λ (l : LegValue). length l.sectors) ks p.0 no_leg 1 (h 0 p (omega arith)))) (bases_are ps ks (All-tail (λ q. q.0 < length ks) p ps h))

long : (ks : List LegValue) → length (lengths ks) ≡ length ks
long ks = length-map ks (λ (l : LegValue). length l.sectors)

pub some_bases : (shared : List (ℕ × ℕ)) (ks : List LegValue) → All IsSound ks → All (λ p. p.0 < length ks) shared → All (λ n. 0 < n) (bases_of shared ks)
some_bases [] ks sound h = λ k d lt. absurd (omega arith)
some_bases (p ∷ ps) ks sound h =
    All-cons (λ n. 0 < n) (length (get_or ks p.0 no_leg).sectors) (bases_of ps ks) (sound p.0 no_leg (h 0 p (omega arith))).some (some_bases ps ks sound (All-tail (λ q. q.0 < length ks) p ps h))

pub few_keys : (shared : List (ℕ × ℕ)) (ks : List LegValue) → All IsSound ks → All (λ p. p.0 < length ks) shared → IsDistinct ◌==◌ (map (λ p. p.0) shared) → numbers (bases_of shared ks) ≤ count ks
few_keys shared ks sound h once =
    let ds : List ℕ = lengths ks in
    let rest : ℕ = numbers (first_left shared ds) in
    let out : numbers (map (λ p. get_or ds p.0 1) shared) * rest ≡ numbers ds = taken_out shared ds (λ k d lt. omega (arith, h k d lt, long ks)) once in
    let some : 0 < rest = positive (first_left shared ds) (all_unmarked (λ n. 0 < n) (marks (is_first shared) (length ds)) ds (some_sectors ks sound)) in
    let le : numbers (bases_of shared ks) * 1 ≤ numbers (bases_of shared ks) * rest = mul-le-mul_left (numbers (bases_of shared ks)) some in
    omega (arith, le, ap (λ ns. numbers ns * rest) (bases_are shared ks h), out, count_is ks)

-- ---- sizes of blocks

-- the dimensions of a tuple's sectors
abbrev dims : List LegValue → List ℕ → List ℕ
dims [] t = []
dims (l ∷ ks) [] = []
dims (l ∷ ks) (s ∷ ss) = (sector_at l.sectors s).dim ∷ dims ks ss

long_dims : (ks : List LegValue) (t : List ℕ) → IsTuple ks t → length (dims ks t) ≡ length ks
long_dims [] t h = refl
long_dims (l ∷ ks) [] h = absurd h
long_dims (l ∷ ks) (s ∷ ss) h = ap suc (long_dims ks ss h.1)

size_is : (ks : List LegValue) (t : List ℕ) → IsTuple ks t → block_size ks t ≡ numbers (dims ks t)
size_is [] t h = refl
size_is (l ∷ ks) [] h = absurd h
size_is (l ∷ ks) (s ∷ ss) h = ap (λ n. (sector_at l.sectors s).dim * n) (size_is ks ss h.1)

left_is : (ms : List Bool) (ks : List LegValue) (t : List ℕ) → IsTuple ks t → block_size (unmarked ms ks) (unmarked ms t) ≡ numbers (unmarked ms (dims ks t))
left_is [] ks t h = refl
left_is (m ∷ ms) [] t h = refl
left_is (m ∷ ms) (l ∷ ks) [] h = absurd h
left_is (true ∷ ms) (l ∷ ks) (s ∷ ss) h = left_is ms ks ss h.1
left_is (false ∷ ms) (l ∷ ks) (s ∷ ss) h = ap (λ n. (sector_at l.sectors s).dim * n) (left_is ms ks ss h.1)

dim_at : (ks : List LegValue) (t : List ℕ) (i : ℕ) → IsTuple ks t → i < length ks → get_or (dims ks t) i 1 ≡ (sector_at (get_or ks i no_leg).sectors (get_or t i 0)).dim
dim_at [] t i h lt = absurd (omega arith)
dim_at (l ∷ ks) [] i h lt = absurd h
dim_at (l ∷ ks) (s ∷ ss) zero h lt = refl
dim_at (l ∷ ks) (s ∷ ss) (suc i) h lt = dim_at ks ss i h.1 (omega arith)

shared_is : (shared : List (ℕ × ℕ)) (ks : List LegValue) (t : List ℕ) → IsTuple ks t → All (λ p. p.0 < length ks) shared → shared_size shared ks t ≡ numbers (map (λ p. get_or (dims ks t) p.0 1) shared)
shared_is [] ks t v h = refl
shared_is (p ∷ ps) ks t v h = ap₂ (λ a b. a * b) (sym (dim_at ks t p.0 v (h 0 p (omega arith)))) (shared_is ps ks t v (All-tail (λ q. q.0 < length ks) p ps h))

-- a block's size is that of its shared legs times that of the others
pub size_shared : (shared : List (ℕ × ℕ)) (ks : List LegValue) (t : List ℕ) → IsTuple ks t → All (λ p. p.0 < length ks) shared → IsDistinct ◌==◌ (map (λ p. p.0) shared) →
    shared_size shared ks t * block_size (first_left shared ks) (first_left shared t) ≡ block_size ks t
size_shared shared ks t v h once =
    let ds : List ℕ = dims ks t in
    let same : (n : ℕ) → n ≡ length ks → length t ≡ length ks → block_size (first_left shared ks) (first_left shared t) ≡ numbers (unmarked (marks (is_first shared) n) ds) =
    λ n e f. ap (λ k. block_size (first_left shared ks) (unmarked (marks (is_first shared) k) t)) f ∙ (left_is (marks (is_first shared) (length ks)) ks t v ∙ ap (λ k. numbers (unmarked (marks (is_first shared) k) ds)) (sym e)) in
    ap₂ (λ a b. a * b) (shared_is shared ks t v h) (same (length ds) (long_dims ks t v) (tuple_length ks t v))
    ∙ (taken_out shared ds (λ k d lt. omega (arith, h k d lt, long_dims ks t v)) once ∙ sym (size_is ks t v))
