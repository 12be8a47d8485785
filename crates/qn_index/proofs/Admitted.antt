-- The admissible tuples, leg by leg from the first.
use Rattle.std.proofs.Common.{Contains, ◌≡◌, ℕ, zero, suc, ◌+◌, ◌*◌, ◌≤◌, ◌<◌, ℤ, List, [], ◌∷◌, ◌++◌, length, map, filter, Bool, true, false, cond, arith, refl, ap, ◌∙◌, sym, subst, get_or}
use Rattle.std.specs.List.{All, flat_map}
use Rattle.std.specs.Cmp.Lexicographic.{pointwise, slice_cmp}
use Rattle.std.specs.Cmp.Rules.{signed_items}
use Rattle.std.specs.Ordering.{int_eq, nat_cmp}
use Rattle.std.specs.declared.cmp.Ordering.TheVariants.{Less}
use Rattle.std.proofs.lemmas.List.Elements.{filter-append}
use Rattle.std.proofs.Math.Nat.{mul-le-mul_right}
use Rattle.std.proofs.lemmas.Bool.{false≢true}
use Rattle.qn_charge.specs.declared.factor.Factor.{Factor}
use Rattle.qn_charge.specs.Charges.{sum_charge, neg_charge, IsCanonical, IsGroup}
use Rattle.qn_charge.specs.Laws.{canonical_sum, associative_charge, commutative_charge, zero_is_neutral, neg_is_inverse, canonical_zero}
use Rattle.qn_index.specs.Legs.{LegValue, IsSound, sector_at, no_sector}
use Rattle.qn_index.specs.Tuples.{net, signed, upward, tuples, admits, admitted, IsTuple, IsAdmissible}
use Rattle.qn_index.specs.Places.{block_size}
use Rattle.qn_index.specs.Extents.{size_of, entries}
use Rattle.qn_index.specs.Weights.{remaining}
use Rattle.qn_index.proofs.Shapes.{tuple_contained, contains_tuple, tuples_ascend}
use Rattle.qn_facts.proofs.Booleans.{same_tests}
pub use Rattle.qn_facts.proofs.Booleans.{same_tests}

-- ---- filters and maps

filter_map_of : {A B : Type 0} (p : B → Bool) (f : A → B) (xs : List A) → filter p (map f xs) ≡ map f (filter (λ x. p (f x)) xs)
filter_map_of p f [] = refl
filter_map_of p f (x ∷ xs) = by (p (f x)) (filter_map_of p f xs)
  where
    by : (b : Bool) → filter p (map f xs) ≡ map f (filter (λ y. p (f y)) xs) → cond b (f x ∷ filter p (map f xs)) (filter p (map f xs)) ≡ map f (cond b (x ∷ filter (λ y. p (f y)) xs) (filter (λ y. p (f y)) xs))
    by true e = ap (λ ys. f x ∷ ys) e
    by false e = e

filter_same : {A : Type 0} (p q : A → Bool) (xs : List A) → ((x : A) → p x ≡ q x) → filter p xs ≡ filter q xs
filter_same p q [] h = refl
filter_same p q (x ∷ xs) h = ap (λ b. cond b (x ∷ filter p xs) (filter p xs)) (h x) ∙ ap (λ ys. cond (q x) (x ∷ ys) ys) (filter_same p q xs h)

filter_pieces : {A : Type 0} (p : A → Bool) (f : ℕ → List A) (ss : List ℕ) → filter p (flat_map f ss) ≡ flat_map (λ s. filter p (f s)) ss
filter_pieces p f [] = refl
filter_pieces p f (s ∷ ss) = filter-append p (f s) (flat_map f ss) ∙ ap (λ ys. filter p (f s) ++ ys) (filter_pieces p f ss)

pub pieces_same : {X A : Type 0} (f g : X → List A) (ss : List X) → ((s : X) → f s ≡ g s) → flat_map f ss ≡ flat_map g ss
pieces_same f g [] h = refl
pieces_same f g (s ∷ ss) h = ap (λ ys. ys ++ flat_map f ss) (h s) ∙ ap (λ ys. g s ++ ys) (pieces_same f g ss h)

-- ---- the flux that is left

pub net_canonical : (fs : List Factor) (ls : List LegValue) (t : List ℕ) → IsGroup fs → IsCanonical fs (net fs ls t)
net_canonical fs [] t g = canonical_zero fs g
net_canonical fs (l ∷ ls) [] g = canonical_sum fs (signed fs l 0) (net fs ls []) g
net_canonical fs (l ∷ ls) (s ∷ ss) g = canonical_sum fs (signed fs l s) (net fs ls ss) g

pub to_remaining : (fs : List Factor) (own n q : List ℤ) → IsGroup fs → IsCanonical fs n → sum_charge fs own n ≡ q → n ≡ remaining fs own q
to_remaining fs own n q g h e =
    sym (ap (sum_charge fs (neg_charge fs own)) (sym e)
    ∙ (sym (associative_charge fs (neg_charge fs own) own n g)
    ∙ (ap (λ z. sum_charge fs z n) (neg_is_inverse fs own g) ∙ zero_is_neutral fs n h)))

pub from_remaining : (fs : List Factor) (own n q : List ℤ) → IsGroup fs → IsCanonical fs q → n ≡ remaining fs own q → sum_charge fs own n ≡ q
from_remaining fs own n q g h e =
    ap (sum_charge fs own) e
    ∙ (sym (associative_charge fs own (neg_charge fs own) q g)
    ∙ (ap (λ z. sum_charge fs z q) (commutative_charge fs own (neg_charge fs own) ∙ neg_is_inverse fs own g) ∙ zero_is_neutral fs q h))

pub test_remaining : (fs : List Factor) (own n q : List ℤ) → IsGroup fs → IsCanonical fs n → IsCanonical fs q → pointwise int_eq (sum_charge fs own n) q ≡ pointwise int_eq n (remaining fs own q)
test_remaining fs own n q g h k =
    same_tests (pointwise int_eq (sum_charge fs own n) q) (pointwise int_eq n (remaining fs own q))
    (λ e. (signed_items n (remaining fs own q)).1 (to_remaining fs own n q g h ((signed_items (sum_charge fs own n) q).0 e)))
    (λ e. (signed_items (sum_charge fs own n) q).1 (from_remaining fs own n q g k ((signed_items n (remaining fs own q)).0 e)))

-- the admissible tuples with each first sector
pub admitted_step : (fs : List Factor) (l : LegValue) (ls : List LegValue) (q : List ℤ) → IsGroup fs → IsCanonical fs q → admitted fs (l ∷ ls) q ≡ flat_map (λ s. map (λ t. s ∷ t) (admitted fs ls (remaining fs (signed fs l s) q))) (upward 0 (length l.sectors))
admitted_step fs l ls q g h =
    filter_pieces (admits fs (l ∷ ls) q) (λ s. map (λ t. s ∷ t) (tuples ls)) (upward 0 (length l.sectors))
    ∙ pieces_same (λ s. filter (admits fs (l ∷ ls) q) (map (λ t. s ∷ t) (tuples ls))) (λ s. map (λ t. s ∷ t) (admitted fs ls (remaining fs (signed fs l s) q))) (upward 0 (length l.sectors))
    (λ s. filter_map_of (admits fs (l ∷ ls) q) (λ t. s ∷ t) (tuples ls)
    ∙ ap (map (λ t. s ∷ t)) (filter_same (λ t. admits fs (l ∷ ls) q (s ∷ t)) (admits fs ls (remaining fs (signed fs l s) q)) (tuples ls) (λ t. test_remaining fs (signed fs l s) (net fs ls t) q g (net_canonical fs ls t g) h)))

-- ---- how many entries

pub size_append : (ls : List LegValue) (ts us : List (List ℕ)) → size_of ls (ts ++ us) ≡ size_of ls ts + size_of ls us
size_append ls [] us = omega arith
size_append ls (t ∷ ts) us = omega (arith, size_append ls ts us)

pub mul_add : (d a b : ℕ) → d * (a + b) ≡ d * a + d * b
mul_add zero a b = omega arith
mul_add (suc d) a b =
    let l : suc d * (a + b) ≡ d * (a + b) + (a + b) = omega arith in
    let m : suc d * a ≡ d * a + a = omega arith in
    let n : suc d * b ≡ d * b + b = omega arith in
    omega (arith, l, m, n, mul_add d a b)

pub size_first : (l : LegValue) (ls : List LegValue) (s : ℕ) (ts : List (List ℕ)) → size_of (l ∷ ls) (map (λ t. s ∷ t) ts) ≡ (sector_at l.sectors s).dim * size_of ls ts
size_first l ls s [] = omega arith
size_first l ls s (t ∷ ts) =
    let d = (sector_at l.sectors s).dim in
    let both : d * (block_size ls t + size_of ls ts) ≡ d * block_size ls t + d * size_of ls ts = mul_add d (block_size ls t) (size_of ls ts) in
    omega (arith, size_first l ls s ts, both)

-- a sum over numbers
abbrev pub total_over : (ℕ → ℕ) → List ℕ → ℕ
total_over f [] = 0
total_over f (s ∷ ss) = f s + total_over f ss

size_pieces : (ls : List LegValue) (f : ℕ → List (List ℕ)) (ss : List ℕ) → size_of ls (flat_map f ss) ≡ total_over (λ s. size_of ls (f s)) ss
size_pieces ls f [] = refl
size_pieces ls f (s ∷ ss) = size_append ls (f s) (flat_map f ss) ∙ ap (λ n. size_of ls (f s) + n) (size_pieces ls f ss)

pub total_same : (f g : ℕ → ℕ) (ss : List ℕ) → ((s : ℕ) → f s ≡ g s) → total_over f ss ≡ total_over g ss
total_same f g [] h = refl
total_same f g (s ∷ ss) h = omega (arith, h s, total_same f g ss h)

pub entries_step : (fs : List Factor) (l : LegValue) (ls : List LegValue) (q : List ℤ) → IsGroup fs → IsCanonical fs q → entries fs (l ∷ ls) q ≡ total_over (λ s. (sector_at l.sectors s).dim * entries fs ls (remaining fs (signed fs l s) q)) (upward 0 (length l.sectors))
entries_step fs l ls q g h =
    ap (size_of (l ∷ ls)) (admitted_step fs l ls q g h)
    ∙ (size_pieces (l ∷ ls) (λ s. map (λ t. s ∷ t) (admitted fs ls (remaining fs (signed fs l s) q))) (upward 0 (length l.sectors))
    ∙ total_same (λ s. size_of (l ∷ ls) (map (λ t. s ∷ t) (admitted fs ls (remaining fs (signed fs l s) q)))) (λ s. (sector_at l.sectors s).dim * entries fs ls (remaining fs (signed fs l s) q)) (upward 0 (length l.sectors)) (λ s. size_first l ls s (admitted fs ls (remaining fs (signed fs l s) q))))

-- each block has an entry, so no entry means no tuple
pub block_some : (ls : List LegValue) (t : List ℕ) → All IsSound ls → IsTuple ls t → 0 < block_size ls t
block_some [] t h v = omega arith
block_some (l ∷ ls) [] h v = absurd v
block_some (l ∷ ls) (s ∷ ss) h v =
    let some = ((h 0 l (omega arith)).dims s no_sector v.0).0 in
    let rest = block_some ls ss (λ k d lt. h (suc k) d (omega arith)) v.1 in
    let le = mul-le-mul_right (block_size ls ss) some in
    omega (arith, le, rest)

none_of_size : (ls : List LegValue) (ts : List (List ℕ)) → ((t : List ℕ) → Contains ts t → 0 < block_size ls t) → size_of ls ts ≡ 0 → ts ≡ []
none_of_size ls [] h e = refl
none_of_size ls (t ∷ ts) h e = absurd (omega (arith, h t (0, omega arith, refl)))

kept_stood : {A : Type 0} (p : A → Bool) (xs : List A) (x : A) → Contains (filter p xs) x → Contains xs x
kept_stood p [] x c = absurd (omega (arith, c.1))
kept_stood p (y ∷ ys) x c = by (p y) c (λ k. kept_stood p ys x k)
  where
    later : Contains ys x → Contains (y ∷ ys) x
    later k = (suc k.0, omega (arith, k.1), k.2)

    by : (b : Bool) → Contains (cond b (y ∷ filter p ys) (filter p ys)) x → (Contains (filter p ys) x → Contains ys x) → Contains (y ∷ ys) x
    by true (zero, lt, q) more = (zero, omega arith, q)
    by true (suc k, lt, q) more = later (more (k, omega arith, q))
    by false k more = later (more k)

pub none_admitted : (fs : List Factor) (ls : List LegValue) (q : List ℤ) → All IsSound ls → entries fs ls q ≡ 0 → admitted fs ls q ≡ []
none_admitted fs ls q h e = none_of_size ls (admitted fs ls q) (λ t c. block_some ls t h (tuple_contained ls t (kept_stood (admits fs ls q) (tuples ls) t c))) e

-- ---- exactly the tuples that meet the flux

pub keeps : {A : Type 0} (p : A → Bool) (xs : List A) (x : A) → Contains xs x → p x ≡ true → Contains (filter p xs) x
keeps p [] x c h = absurd (omega (arith, c.1))
keeps p (y ∷ ys) x c h = by (p y) refl c (λ k. keeps p ys x k h)
  where
    later : Contains (filter p ys) x → Contains (y ∷ filter p ys) x
    later k = (suc k.0, omega (arith, k.1), k.2)

    by : (b : Bool) → p y ≡ b → Contains (y ∷ ys) x → (Contains ys x → Contains (filter p ys) x) → Contains (cond b (y ∷ filter p ys) (filter p ys)) x
    by true e (zero, lt, q) more = (zero, omega arith, q)
    by true e (suc k, lt, q) more = later (more (k, omega arith, q))
    by false e (zero, lt, q) more = absurd (false≢true (sym e ∙ subst (λ z. p z ≡ true) (sym q) h))
    by false e (suc k, lt, q) more = more (k, omega arith, q)

kept_passes : {A : Type 0} (p : A → Bool) (xs : List A) (x : A) → Contains (filter p xs) x → p x ≡ true
kept_passes p [] x c = absurd (omega (arith, c.1))
kept_passes p (y ∷ ys) x c = by (p y) refl c (λ k. kept_passes p ys x k)
  where
    by : (b : Bool) → p y ≡ b → Contains (cond b (y ∷ filter p ys) (filter p ys)) x → (Contains (filter p ys) x → p x ≡ true) → p x ≡ true
    by true e (zero, lt, q) more = subst (λ z. p z ≡ true) q e
    by true e (suc k, lt, q) more = more (k, omega arith, q)
    by false e k more = more k

pub listed : (fs : List Factor) (ls : List LegValue) (q : List ℤ) (t : List ℕ) → IsAdmissible fs ls q t → Contains (admitted fs ls q) t
listed fs ls q t h = keeps (admits fs ls q) (tuples ls) t (contains_tuple ls t h.tuple) ((signed_items (net fs ls t) q).1 h.flux)

pub unlisted : (fs : List Factor) (ls : List LegValue) (q : List ℤ) (t : List ℕ) → Contains (admitted fs ls q) t → IsAdmissible fs ls q t
unlisted fs ls q t c = record {
  tuple = tuple_contained ls t (kept_stood (admits fs ls q) (tuples ls) t c);
  flux = (signed_items (net fs ls t) q).0 (kept_passes (admits fs ls q) (tuples ls) t c);
}

size_has : (ls : List LegValue) (ts : List (List ℕ)) (t : List ℕ) → Contains ts t → block_size ls t ≤ size_of ls ts
size_has ls [] t c = absurd (omega (arith, c.1))
size_has ls (u ∷ us) t (zero, lt, e) = omega (arith, ap (block_size ls) e)
size_has ls (u ∷ us) t (suc k, lt, e) = omega (arith, size_has ls us t (k, omega arith, e))

-- an admissible block is no larger than all together
pub block_within : (fs : List Factor) (ls : List LegValue) (q : List ℤ) (t : List ℕ) → IsAdmissible fs ls q t → block_size ls t ≤ entries fs ls q
block_within fs ls q t h = size_has ls (admitted fs ls q) t (listed fs ls q t h)

-- ---- a filter keeps the order

one_place : {A : Type 0} (p : A → Bool) (xs : List A) (d : A) (j : ℕ) → j < length (filter p xs) → (k : ℕ) × (k < length xs) × (get_or (filter p xs) j d ≡ get_or xs k d)
one_place p [] d j lt = absurd (omega arith)
one_place p (x ∷ xs) d j lt = by (p x) j lt (λ i h. one_place p xs d i h)
  where
    by : (b : Bool) (i : ℕ) → i < length (cond b (x ∷ filter p xs) (filter p xs)) → ((m : ℕ) → m < length (filter p xs) → (k : ℕ) × (k < length xs) × (get_or (filter p xs) m d ≡ get_or xs k d)) → (k : ℕ) × (k < suc (length xs)) × (get_or (cond b (x ∷ filter p xs) (filter p xs)) i d ≡ get_or (x ∷ xs) k d)
    by true zero h more = (0, omega arith, refl)
    by true (suc i) h more = let r = more i (omega arith) in (suc r.0, omega (arith, r.1), r.2)
    by false i h more = let r = more i h in (suc r.0, omega (arith, r.1), r.2)

two_places : {A : Type 0} (p : A → Bool) (xs : List A) (d : A) (i j : ℕ) → i < j → j < length (filter p xs) → (a b : ℕ) × (a < b) × (b < length xs) × (get_or (filter p xs) i d ≡ get_or xs a d) × (get_or (filter p xs) j d ≡ get_or xs b d)
two_places p [] d i j lt h = absurd (omega arith)
two_places p (x ∷ xs) d i j lt h = by (p x) i j lt h (λ m n s t. two_places p xs d m n s t)
  where
    by : (b : Bool) (m n : ℕ) → m < n → n < length (cond b (x ∷ filter p xs) (filter p xs)) → ((u v : ℕ) → u < v → v < length (filter p xs) → (a c : ℕ) × (a < c) × (c < length xs) × (get_or (filter p xs) u d ≡ get_or xs a d) × (get_or (filter p xs) v d ≡ get_or xs c d)) → (a c : ℕ) × (a < c) × (c < suc (length xs)) × (get_or (cond b (x ∷ filter p xs) (filter p xs)) m d ≡ get_or (x ∷ xs) a d) × (get_or (cond b (x ∷ filter p xs) (filter p xs)) n d ≡ get_or (x ∷ xs) c d)
    by true m zero s t more = absurd (omega arith)
    by true zero (suc n) s t more = let r = one_place p xs d n (omega arith) in (0, suc r.0, omega arith, omega (arith, r.1), refl, r.2)
    by true (suc m) (suc n) s t more = let r = more m n (omega arith) (omega arith) in (suc r.0, suc r.1, omega (arith, r.2), omega (arith, r.3), r.4, r.5)
    by false m n s t more = let r = more m n s t in (suc r.0, suc r.1, omega (arith, r.2), omega (arith, r.3), r.4, r.5)

pub admitted_ascend : (fs : List Factor) (ls : List LegValue) (q : List ℤ) (i j : ℕ) → i < j → j < length (admitted fs ls q) → slice_cmp nat_cmp (get_or (admitted fs ls q) i []) (get_or (admitted fs ls q) j []) ≡ Less
admitted_ascend fs ls q i j lt h =
    let r = two_places (admits fs ls q) (tuples ls) [] i j lt h in
    ap (λ t. slice_cmp nat_cmp t (get_or (admitted fs ls q) j [])) r.4 ∙ (ap (slice_cmp nat_cmp (get_or (tuples ls) r.0 [])) r.5 ∙ tuples_ascend ls r.0 r.1 r.2 r.3)
