-- The tuples of a list of legs, in order.
use Rattle.std.proofs.Common.{Contains, ◌⊎◌, inl, inr, ◌≡◌, ℕ, zero, suc, ◌+◌, ◌*◌, ◌/◌, ◌%◌, ◌≤◌, ◌<◌, ◌-◌, List, [], ◌∷◌, ◌++◌, length, get_or, drop, map, arith, refl, ap, ◌∙◌, sym, subst, add-one, ⊎_elim, length-append}
use Rattle.std.specs.List.{flat_map}
use Rattle.std.proofs.lemmas.List.{length-map, get_or-map, get_or_append_left, get_or_default}
use Rattle.std.proofs.Math.Seq.{get_or-append_right}
use Rattle.std.proofs.Math.Nat.{div-lt_iff_lt-mul, mod-lt, mul-le-mul_right}
use Rattle.std.proofs.lemmas.Bool.{cases_eq, cases_lt}
use Rattle.std.proofs.lemmas.Nat.{div-mul-add, mod-mul-add, div-add-mod'}
use Rattle.std.proofs.lemmas.Bool.Decides.{nat_tests}
use Rattle.std.specs.Cmp.Lexicographic.{slice_cmp}
use Rattle.std.specs.Ordering.{nat_cmp, ordering_then}
use Rattle.std.specs.declared.cmp.Ordering.TheVariants.{Less, Equal}
use Rattle.qn_index.specs.Legs.{LegValue}
use Rattle.qn_index.specs.Tuples.{IsTuple, count, upward, tuples}

-- the n-th tuple
abbrev pub nth_tuple : List LegValue → ℕ → List ℕ
nth_tuple [] n = []
nth_tuple (l ∷ ls) n = (n / count ls) ∷ nth_tuple ls (n % count ls)

pub count_suc : (ls : List LegValue) (i : ℕ) (l : LegValue) → i < length ls → count (drop i ls) ≡ length (get_or ls i l).sectors * count (drop (suc i) ls)
count_suc [] i l lt = absurd (omega arith)
count_suc (k ∷ ls) zero l lt = refl
count_suc (k ∷ ls) (suc i) l lt = count_suc ls i l (omega arith)

pub count_step : (ls : List LegValue) (i : ℕ) (l : LegValue) → i < length ls → count (drop i ls) ≡ length (get_or ls i l).sectors * count (drop (i + 1) ls)
count_step ls i l lt = subst (λ k. count (drop i ls) ≡ length (get_or ls i l).sectors * count (drop k ls)) (sym (add-one i)) (count_suc ls i l lt)

-- a number below the product, taken apart
pub below_product : (n k c : ℕ) → n < k * c → (0 < c) × (n / c < k) × (n % c < c)
below_product n k c h =
    let p : 0 < c = ⊎_elim (λ z. absurd (let e : k * c ≡ k * 0 = ap (λ x. k * x) z in omega arith)) (λ o. omega arith) (cases_eq c 0) in
    (p, (div-lt_iff_lt-mul p).1 h, mod-lt n p)

pub nth_is_tuple : (ls : List LegValue) (n : ℕ) → n < count ls → IsTuple ls (nth_tuple ls n)
nth_is_tuple [] n h = refl
nth_is_tuple (l ∷ ls) n h = let b = below_product n (length l.sectors) (count ls) h in (b.1, nth_is_tuple ls (n % count ls) b.2)

-- pieces of one length
length_pieces : {A : Type 0} (f : ℕ → List A) (c a k : ℕ) → ((s : ℕ) → length (f s) ≡ c) → length (flat_map f (upward a k)) ≡ k * c
length_pieces f c a zero h = omega arith
length_pieces f c a (suc k) h = length-append (f a) (flat_map f (upward (a + 1) k)) ∙ omega (arith, h a, length_pieces f c (a + 1) k h)

at_pieces : {A : Type 0} (f : ℕ → List A) (c a k i j : ℕ) (d : A) → ((s : ℕ) → length (f s) ≡ c) → i < k → j < c → get_or (flat_map f (upward a k)) (i * c + j) d ≡ get_or (f (a + i)) j d
at_pieces f c a zero i j d h lt b = absurd (omega arith)
at_pieces f c a (suc k) zero j d h lt b =
    let e : 0 * c + j ≡ j = omega arith in
    let z : a + 0 ≡ a = omega arith in
    ap (λ n. get_or (f a ++ flat_map f (upward (a + 1) k)) n d) e
    ∙ (get_or_append_left (f a) (flat_map f (upward (a + 1) k)) d j (omega (arith, h a)) ∙ ap (λ n. get_or (f n) j d) (sym z))
at_pieces f c a (suc k) (suc i) j d h lt b =
    let m : suc i * c + j ≡ c + (i * c + j) = omega arith in
    let s : suc i * c + j - length (f a) ≡ i * c + j = omega (arith, h a) in
    let z : a + 1 + i ≡ a + suc i = omega arith in
    get_or-append_right (f a) (flat_map f (upward (a + 1) k)) (suc i * c + j) d (omega (arith, h a))
    ∙ (ap (λ n. get_or (flat_map f (upward (a + 1) k)) n d) s ∙ (at_pieces f c (a + 1) k i j d h (omega arith) b ∙ ap (λ n. get_or (f n) j d) z))

pub length_tuples : (ls : List LegValue) → length (tuples ls) ≡ count ls
length_tuples [] = refl
length_tuples (l ∷ ls) = length_pieces (λ s. map (λ t. s ∷ t) (tuples ls)) (count ls) 0 (length l.sectors) (λ s. length-map (tuples ls) (λ t. s ∷ t) ∙ length_tuples ls)

pub tuples_at : (ls : List LegValue) (n : ℕ) → n < count ls → get_or (tuples ls) n [] ≡ nth_tuple ls n
tuples_at [] n h = let z : n ≡ 0 = omega arith in ap (λ k. get_or ([] ∷ []) k []) z
tuples_at (l ∷ ls) n h =
    let c = count ls in
    let b = below_product n (length l.sectors) c h in
    let f : ℕ → List (List ℕ) = λ s. map (λ t. s ∷ t) (tuples ls) in
    let e : n ≡ n / c * c + n % c = omega arith in
    let z : 0 + n / c ≡ n / c = omega arith in
    ap (λ k. get_or (flat_map f (upward 0 (length l.sectors))) k []) e
    ∙ (at_pieces f c 0 (length l.sectors) (n / c) (n % c) [] (λ s. length-map (tuples ls) (λ t. s ∷ t) ∙ length_tuples ls) b.1 b.2
    ∙ (ap (λ s. get_or (f s) (n % c) []) z
    ∙ (get_or-map (λ t. n / c ∷ t) (tuples ls) (n % c) [] [] (omega (arith, length_tuples ls, b.2))
    ∙ ap (λ t. n / c ∷ t) (tuples_at ls (n % c) b.2))))

-- the number of a tuple
abbrev pub rank : List LegValue → List ℕ → ℕ
rank [] t = 0
rank (l ∷ ls) [] = 0
rank (l ∷ ls) (s ∷ ss) = s * count ls + rank ls ss

pub rank_is : (ls : List LegValue) (t : List ℕ) → IsTuple ls t → (rank ls t < count ls) × (nth_tuple ls (rank ls t) ≡ t)
rank_is [] t h = (omega arith, sym h)
rank_is (l ∷ ls) [] h = absurd h
rank_is (l ∷ ls) (s ∷ ss) h =
    let r = rank_is ls ss h.1 in
    let c = count ls in
    let le = mul-le-mul_right c h.0 in
    let e : suc s * c ≡ s * c + c = omega arith in
    (omega (arith, le, e, r.0), ap (λ q. q ∷ nth_tuple ls ((s * c + rank ls ss) % c)) (div-mul-add s c (rank ls ss) r.0) ∙ (ap (λ k. s ∷ nth_tuple ls k) (mod-mul-add s c (rank ls ss) r.0) ∙ ap (λ ts. s ∷ ts) r.1))

-- all tuples stand in the list, and nothing else
pub contains_tuple : (ls : List LegValue) (t : List ℕ) → IsTuple ls t → Contains (tuples ls) t
contains_tuple ls t h =
    let r = rank_is ls t h in
    let long : rank ls t < length (tuples ls) = omega (arith, length_tuples ls, r.0) in
    (rank ls t, long, get_or_default (tuples ls) (rank ls t) t [] long ∙ (tuples_at ls (rank ls t) r.0 ∙ r.1))

pub tuple_contained : (ls : List LegValue) (t : List ℕ) → Contains (tuples ls) t → IsTuple ls t
tuple_contained ls t h =
    let n : h.0 < count ls = omega (arith, length_tuples ls, h.1) in
    subst (IsTuple ls) (sym (tuples_at ls h.0 n) ∙ (get_or_default (tuples ls) h.0 [] t h.1 ∙ h.2)) (nth_is_tuple ls h.0 n)

less_is : (x y : ℕ) → x < y → nat_cmp x y ≡ Less
less_is x y h = grind (arith, nat_tests)

same_is : (x : ℕ) → nat_cmp x x ≡ Equal
same_is x = grind (arith, nat_tests)

parts_ascend : (m n c : ℕ) → 0 < c → m < n → (m / c < n / c) ⊎ ((m / c ≡ n / c) × (m % c < n % c))
parts_ascend m n c p h =
    let dm = div-add-mod' m c in
    let dn = div-add-mod' n c in
    let rm = mod-lt m p in
    let rn = mod-lt n p in
    ⊎_elim (λ lt. inl lt) (λ ge. inr (⊎_elim (λ e. (e, let same : m / c * c ≡ n / c * c = ap (λ k. k * c) e in omega arith)) (λ ne. absurd (let more : suc (n / c) ≤ m / c = omega arith in let le = mul-le-mul_right c more in let s : suc (n / c) * c ≡ n / c * c + c = omega arith in omega arith)) (cases_eq (m / c) (n / c)))) (cases_lt (m / c) (n / c))

-- a smaller number is a smaller tuple
pub nth_ascends : (ls : List LegValue) (m n : ℕ) → m < n → n < count ls → slice_cmp nat_cmp (nth_tuple ls m) (nth_tuple ls n) ≡ Less
nth_ascends [] m n lt h = absurd (omega arith)
nth_ascends (l ∷ ls) m n lt h =
    let c = count ls in
    let b = below_product n (length l.sectors) c h in
    ⊎_elim
    (λ k. ap (λ o. ordering_then o (slice_cmp nat_cmp (nth_tuple ls (m % c)) (nth_tuple ls (n % c)))) (less_is (m / c) (n / c) k))
    (λ k. ap (λ q. ordering_then (nat_cmp q (n / c)) (slice_cmp nat_cmp (nth_tuple ls (m % c)) (nth_tuple ls (n % c)))) k.0 ∙ (ap (λ o. ordering_then o (slice_cmp nat_cmp (nth_tuple ls (m % c)) (nth_tuple ls (n % c)))) (same_is (n / c)) ∙ nth_ascends ls (m % c) (n % c) k.1 b.2))
    (parts_ascend m n c b.0 lt)

pub tuples_ascend : (ls : List LegValue) (i j : ℕ) → i < j → j < length (tuples ls) → slice_cmp nat_cmp (get_or (tuples ls) i []) (get_or (tuples ls) j []) ≡ Less
tuples_ascend ls i j lt h =
    let n : j < count ls = omega (arith, length_tuples ls) in
    ap (λ t. slice_cmp nat_cmp t (get_or (tuples ls) j [])) (tuples_at ls i (omega arith)) ∙ (ap (slice_cmp nat_cmp (nth_tuple ls i)) (tuples_at ls j n) ∙ nth_ascends ls i j lt n)
