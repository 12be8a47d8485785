-- The laws of charges, first for one part and then for lists of parts.
-- Source: Singh, Pfeifer and Vidal 2010; the parity as in super vector spaces.
use Rattle.std.specs.Prelude.{length, ℕ, ℤ, pos, negsuc, ◌+ℤ◌, ◌+◌, ◌-◌, ◌*◌, ◌≤◌, ◌<◌, ◌%◌, ◌≡◌, neg_ℤ, unsigned_abs, List, [], ◌∷◌, Bool, true, false, ◌==◌, refl}
use Rattle.std.specs.Int.{int_rem_euclid}
use Rattle.std.proofs.Common.{inl, inr, ⊎_elim, zero, arith, sym, ap, ◌∙◌, subst, suc, zero-add, ◌/◌}
use Rattle.std.proofs.lemmas.Int.{ints, int_rem_euclid_is}
use Rattle.std.proofs.Math.Nat.{mod-add-mod, mod-eq_of_lt, mul-le-mul_left, div-add-mod}
use Rattle.std.proofs.lemmas.Bool.{cases_lt}
use Rattle.std.proofs.lemmas.Bool.Decides.{nat_tests}
use lib.IntN.{+ℤ_comm, +ℤ_assoc, +ℤ_invl}
use Rattle.qn_charge.specs.declared.factor.Factor.{Factor}
use Rattle.qn_charge.specs.declared.factor.Factor.TheVariants.{U1, Zn}
use Rattle.qn_charge.specs.Firsts.{HasNone}
use Rattle.qn_charge.specs.Ranges.{IsOutOfBound, OutOfRange}
use Rattle.qn_charge.specs.Charges.{reduced, IsFactor, head, tail, zero_charge, sum_charge, neg_charge, canon_charge, is_odd, fermion_part, fermion_sum, xor, parity, IsCanonicalPart, IsCanonical, IsGroup, IsPartWithin, IsWithin}

-- a whole number and enough times n are a natural number
record Lifted (x : ℤ) (n : ℕ) : Type 0 where
  times : ℕ
  whole : ℕ
  is : x +ℤ pos (times * n) ≡ pos whole

lifted : (x : ℤ) (n : ℕ) → 0 < n → Lifted x n
lifted (pos a) n p = record { times = 0; whole = a; is = omega (arith, ints) }
lifted (negsuc a) n p = record { times = suc a; whole = suc a * n - suc a; is = omega (arith, ints, mul-le-mul_left (suc a) p) }

rem-left : (n : ℕ) (x y : ℤ) → 0 < n → int_rem_euclid (int_rem_euclid x (pos n) +ℤ y) (pos n) ≡ int_rem_euclid (x +ℤ y) (pos n)
rem-left n x y p =
    let lx = lifted x n p in
    let ly = lifted y n p in
    let one = int_rem_euclid_is x (pos n) n lx.times lx.whole p refl lx.is in
    let two = int_rem_euclid_is (pos (lx.whole % n) +ℤ y) (pos n) n ly.times (lx.whole % n + ly.whole) p refl (omega (arith, ints)) in
    let all = int_rem_euclid_is (x +ℤ y) (pos n) n (lx.times + ly.times) (lx.whole + ly.whole) p refl (omega (arith, ints)) in
    ap (λ z. int_rem_euclid (z +ℤ y) (pos n)) one ∙ (two ∙ (ap pos (mod-add-mod lx.whole n ly.whole) ∙ sym all))

-- one part: the sum is associative
pub assoc_part : (f : Factor) (a b c : ℤ) → IsFactor f → reduced f (reduced f (a +ℤ b) +ℤ c) ≡ reduced f (a +ℤ reduced f (b +ℤ c))
assoc_part (U1 z) a b c h = +ℤ_assoc a b c
assoc_part (Zn n z) a b c h =
    let p : 0 < n = omega arith in
    rem-left n (a +ℤ b) c p
    ∙ (ap (λ x. int_rem_euclid x (pos n)) (+ℤ_assoc a b c ∙ +ℤ_comm a (b +ℤ c))
    ∙ (sym (rem-left n (b +ℤ c) a p) ∙ ap (λ x. int_rem_euclid x (pos n)) (+ℤ_comm (int_rem_euclid (b +ℤ c) (pos n)) a)))

-- one part: the sum is commutative
pub comm_part : (f : Factor) (a b : ℤ) → reduced f (a +ℤ b) ≡ reduced f (b +ℤ a)
comm_part f a b = ap (reduced f) (+ℤ_comm a b)

-- one part: 0 changes nothing
pub zero_part : (f : Factor) (a : ℤ) → IsCanonicalPart f a → reduced f (pos 0 +ℤ a) ≡ a
zero_part (U1 z) a h = omega (arith, ints)
zero_part (Zn n z) (pos a) h = let lt : a < n = omega (arith, ints) in ap pos (ap (λ k. k % n) (zero-add a) ∙ mod-eq_of_lt lt)
zero_part (Zn n z) (negsuc a) h = absurd (omega (arith, ints))

-- one part: a part and its negative give 0
pub inverse_part : (f : Factor) (a : ℤ) → IsFactor f → reduced f (reduced f (neg_ℤ a) +ℤ a) ≡ pos 0
inverse_part (U1 z) a h = +ℤ_invl a
inverse_part (Zn n z) a h =
    let p : 0 < n = omega arith in
    rem-left n (neg_ℤ a) a p ∙ (ap (λ x. int_rem_euclid x (pos n)) (+ℤ_invl a) ∙ ap pos (mod-eq_of_lt p))

-- ---- odd and even

-- an even number more or less is as odd
even_shift : (x : ℤ) (k m : ℕ) → x +ℤ pos (2 * k) ≡ pos m → unsigned_abs x % 2 ≡ m % 2
even_shift (pos a) k m e = let is : a + 2 * k ≡ m = omega (arith, ints) in omega arith
even_shift (negsuc a) k m e = let is : 2 * k ≡ m + suc a = omega (arith, ints) in omega arith

-- the same for natural numbers
odd_add_nat : (m n : ℕ) → ((m + n) % 2 == 1) ≡ xor (m % 2 == 1) (n % 2 == 1)
odd_add_nat m n = grind (arith, nat_tests)

-- the oddness of a sum is the sum of the oddnesses
pub odd-add : (a b : ℤ) → is_odd (a +ℤ b) ≡ xor (is_odd a) (is_odd b)
odd-add a b =
    let la = lifted a 2 (omega arith) in
    let lb = lifted b 2 (omega arith) in
    let ea = even_shift a la.times la.whole (omega (arith, ints)) in
    let eb = even_shift b lb.times lb.whole (omega (arith, ints)) in
    let es = even_shift (a +ℤ b) (la.times + lb.times) (la.whole + lb.whole) (omega (arith, ints)) in
    ap (λ k. k == 1) es ∙ (odd_add_nat la.whole lb.whole ∙ cc)

even_times : (a : ℤ) (t n j m : ℕ) → n ≡ 2 * j → a +ℤ pos (t * n) ≡ pos m → a +ℤ pos (2 * (t * j)) ≡ pos m
even_times a t n j m e h = let s : t * n ≡ 2 * (t * j) = ap (λ k. t * k) e ∙ omega arith in subst (λ k. a +ℤ pos k ≡ pos m) s h

mod_even : (m n j : ℕ) → n ≡ 2 * j → m % n % 2 ≡ m % 2
mod_even m n j e =
    let split = div-add-mod m n in
    let s : n * (m / n) ≡ 2 * (j * (m / n)) = ap (λ k. k * (m / n)) e ∙ omega arith in
    omega arith

-- an even n takes an even number away
odd-reduced : (n : ℕ) (a : ℤ) → IsFactor (Zn n true) → is_odd (int_rem_euclid a (pos n)) ≡ is_odd a
odd-reduced n a h =
    let p : 0 < n = omega arith in
    let la = lifted a n p in
    let even = h.2 refl in
    let half : n ≡ 2 * (n / 2) = omega arith in
    let er = int_rem_euclid_is a (pos n) n la.times la.whole p refl la.is in
    ap is_odd er ∙ ap (λ k. k == 1) (mod_even la.whole n (n / 2) half ∙ sym (even_shift a (la.times * (n / 2)) la.whole (even_times a la.times n (n / 2) la.whole half la.is)))

-- ---- lists of parts

cons_eq : {A : Type 0} (x y : A) (xs ys : List A) → x ≡ y → xs ≡ ys → x ∷ xs ≡ y ∷ ys
cons_eq x y xs ys p q = cc

-- the sum is associative
pub associative_charge : (fs : List Factor) (a b c : List ℤ) → IsGroup fs → sum_charge fs (sum_charge fs a b) c ≡ sum_charge fs a (sum_charge fs b c)
associative_charge [] a b c h = refl
associative_charge (f ∷ fs) a b c h =
    cons_eq _ _ _ _ (assoc_part f (head a) (head b) (head c) h.0) (associative_charge fs (tail a) (tail b) (tail c) h.1)

-- the sum is commutative
pub commutative_charge : (fs : List Factor) (a b : List ℤ) → sum_charge fs a b ≡ sum_charge fs b a
commutative_charge [] a b = refl
commutative_charge (f ∷ fs) a b = cons_eq _ _ _ _ (comm_part f (head a) (head b)) (commutative_charge fs (tail a) (tail b))

-- the zero charge changes nothing
pub zero_is_neutral : (fs : List Factor) (a : List ℤ) → IsCanonical fs a → sum_charge fs (zero_charge fs) a ≡ a
zero_is_neutral [] a h = sym h
zero_is_neutral (f ∷ fs) [] h = absurd h
zero_is_neutral (f ∷ fs) (x ∷ xs) h = cons_eq _ _ _ _ (zero_part f x h.0) (zero_is_neutral fs xs h.1)

-- a charge and its negative give the zero charge
pub neg_is_inverse : (fs : List Factor) (a : List ℤ) → IsGroup fs → sum_charge fs (neg_charge fs a) a ≡ zero_charge fs
neg_is_inverse [] a h = refl
neg_is_inverse (f ∷ fs) a h = cons_eq _ _ _ _ (inverse_part f (head a) h.0) (neg_is_inverse fs (tail a) h.1)

-- ---- the parity

-- the parity of the first part and that of the others add
pub parity_cons : (f : Factor) (fs : List Factor) (a : List ℤ) → parity (f ∷ fs) a ≡ xor (is_odd (fermion_part f (head a))) (parity fs (tail a))
parity_cons f fs a = odd-add (fermion_part f (head a)) (fermion_sum fs (tail a))

part_parity_adds : (f : Factor) (a b : ℤ) → IsFactor f → is_odd (fermion_part f (reduced f (a +ℤ b))) ≡ xor (is_odd (fermion_part f a)) (is_odd (fermion_part f b))
part_parity_adds (U1 true) a b h = odd-add a b
part_parity_adds (U1 false) a b h = refl
part_parity_adds (Zn n true) a b h = odd-reduced n (a +ℤ b) h ∙ odd-add a b
part_parity_adds (Zn n false) a b h = refl

xor_swap : (p q r s : Bool) → xor (xor p q) (xor r s) ≡ xor (xor p r) (xor q s)
xor_swap true true true true = refl
xor_swap true true true false = refl
xor_swap true true false true = refl
xor_swap true true false false = refl
xor_swap true false true true = refl
xor_swap true false true false = refl
xor_swap true false false true = refl
xor_swap true false false false = refl
xor_swap false true true true = refl
xor_swap false true true false = refl
xor_swap false true false true = refl
xor_swap false true false false = refl
xor_swap false false true true = refl
xor_swap false false true false = refl
xor_swap false false false true = refl
xor_swap false false false false = refl

-- the parity of a sum is the sum of the parities
pub parity_adds : (fs : List Factor) (a b : List ℤ) → IsGroup fs → parity fs (sum_charge fs a b) ≡ xor (parity fs a) (parity fs b)
parity_adds [] a b h = refl
parity_adds (f ∷ fs) a b h =
    let x = is_odd (fermion_part f (head a)) in
    let y = is_odd (fermion_part f (head b)) in
    let p = parity fs (tail a) in
    let q = parity fs (tail b) in
    parity_cons f fs (sum_charge (f ∷ fs) a b)
    ∙ (ap (λ t. xor t (parity fs (sum_charge fs (tail a) (tail b)))) (part_parity_adds f (head a) (head b) h.0)
    ∙ (ap (xor (xor x y)) (parity_adds fs (tail a) (tail b) h.1)
    ∙ (xor_swap x y p q
    ∙ (ap (λ t. xor t (xor y q)) (sym (parity_cons f fs a)) ∙ ap (xor (parity (f ∷ fs) a)) (sym (parity_cons f fs b))))))

-- ---- how far U(1) parts go

part_within_sum : (m n : ℕ) (f : Factor) (a b : ℤ) → IsPartWithin m f a → IsPartWithin n f b → IsPartWithin (m + n) f (reduced f (a +ℤ b))
part_within_sum m n (U1 z) a b p q = omega (arith, ints)
part_within_sum m n (Zn k z) a b p q = tt

-- U(1) parts within m and within n have sums within m + n
pub within_sum : (m n : ℕ) (fs : List Factor) (a b : List ℤ) → IsWithin m fs a → IsWithin n fs b → IsWithin (m + n) fs (sum_charge fs a b)
within_sum m n [] a b p q = tt
within_sum m n (f ∷ fs) a b p q = (part_within_sum m n f (head a) (head b) p.0 q.0, within_sum m n fs (tail a) (tail b) p.1 q.1)

part_within_neg : (m : ℕ) (f : Factor) (a : ℤ) → IsPartWithin m f a → IsPartWithin m f (reduced f (neg_ℤ a))
part_within_neg m (U1 z) a p = omega (arith, ints)
part_within_neg m (Zn k z) a p = tt

-- U(1) parts within m have negatives within m
pub within_neg : (m : ℕ) (fs : List Factor) (a : List ℤ) → IsWithin m fs a → IsWithin m fs (neg_charge fs a)
within_neg m [] a p = tt
within_neg m (f ∷ fs) a p = (part_within_neg m f (head a) p.0, within_neg m fs (tail a) p.1)

part_within_zero : (m : ℕ) (f : Factor) → IsPartWithin m f (pos 0)
part_within_zero m (U1 z) = omega arith
part_within_zero m (Zn k z) = tt

-- the zero charge is within every bound
pub within_zero : (m : ℕ) (fs : List Factor) → IsWithin m fs (zero_charge fs)
within_zero m [] = tt
within_zero m (f ∷ fs) = (part_within_zero m f, within_zero m fs)

part_within_more : (m n : ℕ) (f : Factor) (a : ℤ) → m ≤ n → IsPartWithin m f a → IsPartWithin n f a
part_within_more m n (U1 z) a le p = omega arith
part_within_more m n (Zn k z) a le p = tt

-- what is within m is within every greater bound
pub within_more : (m n : ℕ) (fs : List Factor) (a : List ℤ) → m ≤ n → IsWithin m fs a → IsWithin n fs a
within_more m n [] a le p = tt
within_more m n (f ∷ fs) a le p = (part_within_more m n f (head a) le p.0, within_more m n fs (tail a) le p.1)

part_canonical_zero : (f : Factor) → IsFactor f → IsCanonicalPart f (pos 0)
part_canonical_zero (U1 z) h = tt
part_canonical_zero (Zn n z) h = (omega (arith, ints), omega (arith, ints))

-- the zero charge is canonical
pub canonical_zero : (fs : List Factor) → IsGroup fs → IsCanonical fs (zero_charge fs)
canonical_zero [] h = refl
canonical_zero (f ∷ fs) h = (part_canonical_zero f h.0, canonical_zero fs h.1)

-- ---- sums, negatives and reduced charges are canonical

canonical_reduced : (f : Factor) (x : ℤ) → IsFactor f → IsCanonicalPart f (reduced f x)
canonical_reduced (U1 z) x h = tt
canonical_reduced (Zn n z) (pos a) h = let lt : a % n < n = omega arith in (omega (arith, ints), omega (arith, ints))
canonical_reduced (Zn n z) (negsuc a) h = let p : 0 < n = omega arith in (omega (arith, ints), omega (arith, ints))

-- a sum is canonical
pub canonical_sum : (fs : List Factor) (a b : List ℤ) → IsGroup fs → IsCanonical fs (sum_charge fs a b)
canonical_sum [] a b h = refl
canonical_sum (f ∷ fs) a b h = (canonical_reduced f (head a +ℤ head b) h.0, canonical_sum fs (tail a) (tail b) h.1)

-- a negative is canonical
pub canonical_neg : (fs : List Factor) (a : List ℤ) → IsGroup fs → IsCanonical fs (neg_charge fs a)
canonical_neg [] a h = refl
canonical_neg (f ∷ fs) a h = (canonical_reduced f (neg_ℤ (head a)) h.0, canonical_neg fs (tail a) h.1)

-- a canonical form is canonical
pub canonical_canon : (fs : List Factor) (a : List ℤ) → IsGroup fs → IsCanonical fs (canon_charge fs a)
canonical_canon [] a h = refl
canonical_canon (f ∷ fs) a h = (canonical_reduced f (head a) h.0, canonical_canon fs (tail a) h.1)

-- ---- equal sums, and negatives

-- equal terms may be taken from equal sums
pub sum_cancels : (fs : List Factor) (c a b : List ℤ) → IsGroup fs → IsCanonical fs a → IsCanonical fs b → sum_charge fs c a ≡ sum_charge fs c b → a ≡ b
sum_cancels fs c a b h p q e = sym (alone a p) ∙ (ap (sum_charge fs (neg_charge fs c)) e ∙ alone b q)
  where
    alone : (x : List ℤ) → IsCanonical fs x → sum_charge fs (neg_charge fs c) (sum_charge fs c x) ≡ x
    alone x r = sym (associative_charge fs (neg_charge fs c) c x h) ∙ (ap (λ z. sum_charge fs z x) (neg_is_inverse fs c h) ∙ zero_is_neutral fs x r)

-- what gives 0 with a is the negative of a
pub neg_is_only_inverse : (fs : List Factor) (a b : List ℤ) → IsGroup fs → IsCanonical fs b → sum_charge fs b a ≡ zero_charge fs → b ≡ neg_charge fs a
neg_is_only_inverse fs a b h p e =
    sum_cancels fs a b (neg_charge fs a) h p (canonical_neg fs a h)
    (commutative_charge fs a b ∙ (e ∙ (sym (neg_is_inverse fs a h) ∙ commutative_charge fs (neg_charge fs a) a)))

-- the negative of the negative is the charge
pub neg_of_neg : (fs : List Factor) (a : List ℤ) → IsGroup fs → IsCanonical fs a → neg_charge fs (neg_charge fs a) ≡ a
neg_of_neg fs a h p = sym (neg_is_only_inverse fs (neg_charge fs a) a h p (commutative_charge fs a (neg_charge fs a) ∙ neg_is_inverse fs a h))

-- the zero charge is its own negative
pub neg_of_zero : (fs : List Factor) → IsGroup fs → neg_charge fs (zero_charge fs) ≡ zero_charge fs
neg_of_zero fs h = sym (neg_is_only_inverse fs (zero_charge fs) (zero_charge fs) h (canonical_zero fs h) (zero_is_neutral fs (zero_charge fs) (canonical_zero fs h)))

-- the negative of a sum is the sum of the negatives
pub neg_of_sum : (fs : List Factor) (a b : List ℤ) → IsGroup fs → neg_charge fs (sum_charge fs a b) ≡ sum_charge fs (neg_charge fs a) (neg_charge fs b)
neg_of_sum fs a b h = sym (neg_is_only_inverse fs (sum_charge fs a b) (sum_charge fs (neg_charge fs a) (neg_charge fs b)) h (canonical_sum fs (neg_charge fs a) (neg_charge fs b) h) gone)
  where
    gone : sum_charge fs (sum_charge fs (neg_charge fs a) (neg_charge fs b)) (sum_charge fs a b) ≡ zero_charge fs
    gone =
        let m = neg_charge fs a in
        let n = neg_charge fs b in
        let last : sum_charge fs n (sum_charge fs b a) ≡ sum_charge fs (zero_charge fs) a = sym (associative_charge fs n b a h) ∙ ap (λ z. sum_charge fs z a) (neg_is_inverse fs b h) in
        let first : sum_charge fs m (zero_charge fs) ≡ m = commutative_charge fs m (zero_charge fs) ∙ zero_is_neutral fs m (canonical_neg fs a h) in
        ap (sum_charge fs (sum_charge fs m n)) (commutative_charge fs a b)
        ∙ (associative_charge fs m n (sum_charge fs b a) h
        ∙ (ap (sum_charge fs m) last
        ∙ (sym (associative_charge fs m (zero_charge fs) a h)
        ∙ (ap (λ z. sum_charge fs z a) first ∙ neg_is_inverse fs a h))))

-- the zero charge is even
pub parity_of_zero : (fs : List Factor) → parity fs (zero_charge fs) ≡ false
parity_of_zero [] = refl
parity_of_zero (f ∷ fs) = parity_cons f fs (zero_charge (f ∷ fs)) ∙ (ap (λ x. xor (is_odd x) (parity fs (zero_charge fs))) (zero_fermion_part f) ∙ parity_of_zero fs)
  where
    zero_fermion_part : (f : Factor) → fermion_part f (pos 0) ≡ pos 0
    zero_fermion_part (U1 true) = refl
    zero_fermion_part (U1 false) = refl
    zero_fermion_part (Zn n true) = refl
    zero_fermion_part (Zn n false) = refl

xor_none : (p q : Bool) → xor p q ≡ false → p ≡ q
xor_none true true e = refl
xor_none true false e = e
xor_none false true e = sym e
xor_none false false e = refl

-- the parity of a negative is that of the charge
pub parity_of_neg : (fs : List Factor) (a : List ℤ) → IsGroup fs → parity fs (neg_charge fs a) ≡ parity fs a
parity_of_neg fs a h = xor_none _ _ (sym (parity_adds fs (neg_charge fs a) a h) ∙ (ap (parity fs) (neg_is_inverse fs a h) ∙ parity_of_zero fs))

-- ---- canonical forms

canon_part : (f : Factor) (a : ℤ) → IsCanonicalPart f a → reduced f a ≡ a
canon_part (U1 z) a h = refl
canon_part (Zn n z) (pos a) h = let lt : a < n = omega (arith, ints) in ap pos (mod-eq_of_lt lt)
canon_part (Zn n z) (negsuc a) h = absurd (omega (arith, ints))

-- a canonical charge is its own canonical form
pub canon_of_canonical : (fs : List Factor) (a : List ℤ) → IsCanonical fs a → canon_charge fs a ≡ a
canon_of_canonical [] a h = sym h
canon_of_canonical (f ∷ fs) [] h = absurd h
canon_of_canonical (f ∷ fs) (x ∷ xs) h = cons_eq _ _ _ _ (canon_part f x h.0) (canon_of_canonical fs xs h.1)

reduced_left_part : (f : Factor) (a b : ℤ) → IsFactor f → reduced f (reduced f a +ℤ b) ≡ reduced f (a +ℤ b)
reduced_left_part (U1 z) a b h = refl
reduced_left_part (Zn n z) a b h = let p : 0 < n = omega arith in rem-left n a b p

-- the canonical form of a term may be taken before a sum
pub sum_of_canon : (fs : List Factor) (a b : List ℤ) → IsGroup fs → sum_charge fs (canon_charge fs a) b ≡ sum_charge fs a b
sum_of_canon [] a b h = refl
sum_of_canon (f ∷ fs) a b h = cons_eq _ _ _ _ (reduced_left_part f (head a) (head b) h.0) (sum_of_canon fs (tail a) (tail b) h.1)

-- ---- parts in range

in_range_part : (bound : ℕ) (f : Factor) (x : ℤ) → (IsOutOfBound (pos bound) f x → ⊥) → IsCanonicalPart f x × IsPartWithin bound f x
in_range_part bound (U1 z) (pos k) none = (tt, ⊎_elim (λ l. absurd (none (inr (omega (arith, ints))))) (λ l. l) (cases_lt bound k))
in_range_part bound (U1 z) (negsuc k) none = (tt, ⊎_elim (λ l. absurd (none (inl (omega (arith, ints))))) (λ l. l) (cases_lt bound (suc k)))
in_range_part bound (Zn n z) (pos k) none = ((omega (arith, ints), ⊎_elim (λ l. omega (arith, ints)) (λ l. absurd (none (inr (omega (arith, ints))))) (cases_lt k n)), tt)
in_range_part bound (Zn n z) (negsuc k) none = absurd (none (inl (omega (arith, ints))))

in_range_back : (bound : ℕ) (f : Factor) (x : ℤ) → IsCanonicalPart f x → IsPartWithin bound f x → IsOutOfBound (pos bound) f x → ⊥
in_range_back bound (U1 z) x c w (inl l) = omega (arith, ints)
in_range_back bound (U1 z) x c w (inr l) = omega (arith, ints)
in_range_back bound (Zn n z) x c w (inl l) = omega (arith, ints)
in_range_back bound (Zn n z) x c w (inr l) = omega (arith, ints)

-- a charge with no part out of range is canonical, and its U(1) parts are within the bound
pub in_range : (bound : ℕ) (fs : List Factor) (a : List ℤ) → length a ≡ length fs → HasNone (OutOfRange bound fs a) → IsCanonical fs a × IsWithin bound fs a
in_range bound [] [] n none = (refl, tt)
in_range bound [] (x ∷ xs) n none = absurd (omega arith)
in_range bound (f ∷ fs) [] n none = absurd (omega arith)
in_range bound (f ∷ fs) (x ∷ xs) n none =
    let here = in_range_part bound f x (λ o. none 0 (omega arith, o)) in
    let rest = in_range bound fs xs (omega arith) (λ j o. none (suc j) (omega (arith, o.0), o.1)) in
    ((here.0, rest.0), (here.1, rest.1))

-- a canonical charge whose U(1) parts are within the bound has no part out of range
pub none_out_of_range : (bound : ℕ) (fs : List Factor) (a : List ℤ) → IsCanonical fs a → IsWithin bound fs a → HasNone (OutOfRange bound fs a)
none_out_of_range bound [] a c w j o = absurd (omega (arith, o.0))
none_out_of_range bound (f ∷ fs) [] c w j o = absurd c
none_out_of_range bound (f ∷ fs) (x ∷ xs) c w zero o = in_range_back bound f x c.0 w.0 o.1
none_out_of_range bound (f ∷ fs) (x ∷ xs) c w (suc j) o = none_out_of_range bound fs xs c.1 w.1 j (omega (arith, o.0), o.1)

-- a canonical charge has one part for each factor
pub length_canonical : (fs : List Factor) (a : List ℤ) → IsCanonical fs a → length a ≡ length fs
length_canonical [] a c = ap length c
length_canonical (f ∷ fs) [] c = absurd c
length_canonical (f ∷ fs) (x ∷ xs) c = ap suc (length_canonical fs xs c.1)
