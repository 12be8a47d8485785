-- Lists of parts, place by place.
use Rattle.std.proofs.Common.{◌≡◌, ℕ, zero, suc, ◌+◌, ◌≤◌, ◌<◌, ℤ, pos, neg_ℤ, ◌+ℤ◌, ◌%◌, replicate, add-one, drop, subst, ◌++◌, inl, inr, ⊎_elim, List, [], ◌∷◌, length, get_or, take, arith, refl, ap, ◌∙◌, sym, Bool, true, false}
use Rattle.std.proofs.Math.ListN.{set}
use mathlib.Core.Bool.{not, beq}
use Rattle.std.proofs.lemmas.Bool.{cases_lt, cases_eq}
use Rattle.std.proofs.lemmas.List.{drop-replicate}
use Rattle.std.proofs.Math.Seq.{drop-append_seam, take-append_seam}
use Rattle.qn_charge.specs.Padded.{IsPadded}
use Rattle.qn_charge.specs.Firsts.{HasNone}
use Rattle.qn_charge.specs.Faults.{BadModulusAt, OddFermionAt, IsBadModulus, IsOddFermion}
use Rattle.qn_charge.specs.Laws.{parity_cons}
use Rattle.std.proofs.lemmas.Grind.{common_steps}
use Rattle.qn_charge.specs.declared.factor.Factor.{Factor}
use Rattle.qn_charge.specs.declared.factor.Factor.TheVariants.{U1, Zn}
use Rattle.qn_charge.specs.Charges.{reduced, IsFactor, IsGroup, IsCanonicalPart, IsCanonical, IsPartWithin, IsWithin, head, tail, zero_charge, sum_charge, neg_charge, canon_charge, parity, xor, is_odd, fermion_part}

pub group_at : (fs : List Factor) (i : ℕ) (d : Factor) → IsGroup fs → i < length fs → IsFactor (get_or fs i d)
group_at [] i d h lt = absurd (omega arith)
group_at (f ∷ fs) zero d h lt = h.0
group_at (f ∷ fs) (suc i) d h lt = group_at fs i d h.1 (omega arith)

pub canonical_at : (fs : List Factor) (a : List ℤ) (i : ℕ) (d : Factor) → IsCanonical fs a → i < length fs → IsCanonicalPart (get_or fs i d) (get_or a i (pos 0))
canonical_at [] a i d h lt = absurd (omega arith)
canonical_at (f ∷ fs) [] i d h lt = absurd h
canonical_at (f ∷ fs) (x ∷ xs) zero d h lt = h.0
canonical_at (f ∷ fs) (x ∷ xs) (suc i) d h lt = canonical_at fs xs i d h.1 (omega arith)

within_reduced : (bound : ℕ) (f : Factor) (x : ℤ) → IsPartWithin bound f (reduced f x) → IsPartWithin bound f x
within_reduced bound (U1 z) x h = h
within_reduced bound (Zn n z) x h = tt

get_or_tail : (a : List ℤ) (i : ℕ) → get_or (tail a) i (pos 0) ≡ get_or a (suc i) (pos 0)
get_or_tail [] i = refl
get_or_tail (x ∷ xs) i = refl

get_or_head : (a : List ℤ) → head a ≡ get_or a 0 (pos 0)
get_or_head [] = refl
get_or_head (x ∷ xs) = refl

pub length_sum : (fs : List Factor) (a b : List ℤ) → length (sum_charge fs a b) ≡ length fs
length_sum [] a b = refl
length_sum (f ∷ fs) a b = ap suc (length_sum fs (tail a) (tail b))

pub sum_at : (fs : List Factor) (a b : List ℤ) (i : ℕ) (d : Factor) → i < length fs → get_or (sum_charge fs a b) i (pos 0) ≡ reduced (get_or fs i d) (get_or a i (pos 0) +ℤ get_or b i (pos 0))
sum_at [] a b i d lt = absurd (omega arith)
sum_at (f ∷ fs) a b zero d lt = cc (get_or_head a, get_or_head b)
sum_at (f ∷ fs) a b (suc i) d lt = sum_at fs (tail a) (tail b) i d (omega arith) ∙ cc (get_or_tail a i, get_or_tail b i)

pub within_sum_at : (bound : ℕ) (fs : List Factor) (a b : List ℤ) (i : ℕ) (d : Factor) → IsWithin bound fs (sum_charge fs a b) → i < length fs → IsPartWithin bound (get_or fs i d) (get_or a i (pos 0) +ℤ get_or b i (pos 0))
within_sum_at bound [] a b i d h lt = absurd (omega arith)
within_sum_at bound (f ∷ fs) a b zero d h lt = rw (← get_or_head a, ← get_or_head b) (within_reduced bound f (head a +ℤ head b) h.0)
within_sum_at bound (f ∷ fs) a b (suc i) d h lt = rw (← get_or_tail a i, ← get_or_tail b i) (within_sum_at bound fs (tail a) (tail b) i d h.1 (omega arith))

pub fill_more : (parts all : List ℤ) (i : ℕ) (v : ℤ) → i < length parts → i < length all → take i parts ≡ take i all → v ≡ get_or all i (pos 0) → take (i + 1) (set parts i v) ≡ take (i + 1) all
fill_more parts all i v p q e is = grind (arith, common_steps)

-- ---- the opposite, nothing, and the parity

pub length_neg : (fs : List Factor) (a : List ℤ) → length (neg_charge fs a) ≡ length fs
length_neg [] a = refl
length_neg (f ∷ fs) a = ap suc (length_neg fs (tail a))

pub neg_at : (fs : List Factor) (a : List ℤ) (i : ℕ) (d : Factor) → i < length fs → get_or (neg_charge fs a) i (pos 0) ≡ reduced (get_or fs i d) (neg_ℤ (get_or a i (pos 0)))
neg_at [] a i d lt = absurd (omega arith)
neg_at (f ∷ fs) a zero d lt = cc (get_or_head a)
neg_at (f ∷ fs) a (suc i) d lt = neg_at fs (tail a) i d (omega arith) ∙ cc (get_or_tail a i)

pub within_neg_at : (bound : ℕ) (fs : List Factor) (a : List ℤ) (i : ℕ) (d : Factor) → IsWithin bound fs (neg_charge fs a) → i < length fs → IsPartWithin bound (get_or fs i d) (neg_ℤ (get_or a i (pos 0)))
within_neg_at bound [] a i d h lt = absurd (omega arith)
within_neg_at bound (f ∷ fs) a zero d h lt = rw (← get_or_head a) (within_reduced bound f (neg_ℤ (head a)) h.0)
within_neg_at bound (f ∷ fs) a (suc i) d h lt = rw (← get_or_tail a i) (within_neg_at bound fs (tail a) i d h.1 (omega arith))

-- ---- the canonical form

pub length_canon : (fs : List Factor) (a : List ℤ) → length (canon_charge fs a) ≡ length fs
length_canon [] a = refl
length_canon (f ∷ fs) a = ap suc (length_canon fs (tail a))

pub canon_at : (fs : List Factor) (a : List ℤ) (i : ℕ) (d : Factor) → i < length fs → get_or (canon_charge fs a) i (pos 0) ≡ reduced (get_or fs i d) (get_or a i (pos 0))
canon_at [] a i d lt = absurd (omega arith)
canon_at (f ∷ fs) a zero d lt = ap (reduced f) (get_or_head a)
canon_at (f ∷ fs) a (suc i) d lt = canon_at fs (tail a) i d (omega arith) ∙ ap (reduced (get_or fs i d)) (get_or_tail a i)

pub zero_is_replicate : (fs : List Factor) → zero_charge fs ≡ replicate (length fs) (pos 0)
zero_is_replicate [] = refl
zero_is_replicate (f ∷ fs) = ap (λ xs. pos 0 ∷ xs) (zero_is_replicate fs)

-- the parity of the first i parts
xor_false : (b : Bool) → xor b false ≡ b
xor_false true = refl
xor_false false = refl

xor_assoc : (p q r : Bool) → xor p (xor q r) ≡ xor (xor p q) r
xor_assoc true true true = refl
xor_assoc true true false = refl
xor_assoc true false true = refl
xor_assoc true false false = refl
xor_assoc false q r = refl

pub parity_more : (fs : List Factor) (a : List ℤ) (i : ℕ) (d : Factor) → i < length fs → parity (take (suc i) fs) a ≡ xor (parity (take i fs) a) (is_odd (fermion_part (get_or fs i d) (get_or a i (pos 0))))
parity_more [] a i d lt = absurd (omega arith)
parity_more (f ∷ fs) a zero d lt = parity_cons f [] a ∙ (xor_false _ ∙ ap (λ x. is_odd (fermion_part f x)) (get_or_head a))
parity_more (f ∷ fs) a (suc i) d lt =
    let x = is_odd (fermion_part f (head a)) in
    parity_cons f (take (suc i) fs) a
    ∙ (ap (xor x) (parity_more fs (tail a) i d (omega arith) ∙ ap (λ y. xor (parity (take i fs) (tail a)) (is_odd (fermion_part (get_or fs i d) y))) (get_or_tail a i))
    ∙ (xor_assoc x (parity (take i fs) (tail a)) (is_odd (fermion_part (get_or fs i d) (get_or a (suc i) (pos 0))))
    ∙ ap (λ p. xor p (is_odd (fermion_part (get_or fs i d) (get_or a (suc i) (pos 0))))) (sym (parity_cons f (take i fs) a))))

-- the code's `^`
pub xor_is : (p q : Bool) → not (beq p q) ≡ xor p q
xor_is true true = refl
xor_is true false = refl
xor_is false true = refl
xor_is false false = refl

pub parity_step : (fs : List Factor) (a : List ℤ) (i : ℕ) (d f : Factor) (x : ℤ) (odd r : Bool) → i < length fs → odd ≡ parity (take i fs) a → f ≡ get_or fs i d → x ≡ get_or a i (pos 0) → r ≡ is_odd (fermion_part f x) → not (beq odd r) ≡ parity (take (i + 1) fs) a
parity_step fs a i d f x odd r lt e p q s =
    let share : r ≡ is_odd (fermion_part (get_or fs i d) (get_or a i (pos 0))) = s ∙ cc in
    let joined : xor odd r ≡ xor (parity (take i fs) a) (is_odd (fermion_part (get_or fs i d) (get_or a i (pos 0)))) = cc in
    xor_is odd r ∙ (joined ∙ (sym (parity_more fs a i d lt) ∙ ap (λ k. parity (take k fs) a) (sym (add-one i))))

factor_from : (f : Factor) → (IsBadModulus f → ⊥) → (IsOddFermion f → ⊥) → IsFactor f
factor_from (U1 z) p q = tt
factor_from (Zn n z) p q = (⊎_elim (λ l. absurd (p (inl l))) (λ l. l) (cases_lt n 2), ⊎_elim (λ l. absurd (p (inr l))) (λ l. l) (cases_lt 1000 n), λ e. ⊎_elim (λ z. z) (λ o. absurd (q (e, omega arith))) (cases_eq (n % 2) 0))

pub group_from : (fs : List Factor) → HasNone (BadModulusAt fs) → HasNone (OddFermionAt fs) → IsGroup fs
group_from [] p q = tt
group_from (f ∷ fs) p q =
    (factor_from f (λ b. p 0 (omega arith, b)) (λ b. q 0 (omega arith, b)), group_from fs (λ j b. p (suc j) (omega arith, b.1)) (λ j b. q (suc j) (omega arith, b.1)))

pub padded_new : {A : Type 0} (nothing : A) (k : ℕ) (xs ps : List A) → k ≤ 4 → length xs ≡ k → ps ≡ xs ++ drop k (replicate 4 nothing) → IsPadded nothing k ps
padded_new nothing k xs ps few count e = record {
  few = few;
  four = grind (arith, common_steps, drop-replicate);
  rest = ap (drop k) e ∙ (subst (λ n. drop n (xs ++ drop k (replicate 4 nothing)) ≡ drop k (replicate 4 nothing)) count (drop-append_seam xs (drop k (replicate 4 nothing))) ∙ drop-replicate k 4 nothing);
}

pub taken_new : {A : Type 0} (nothing : A) (k : ℕ) (xs ps : List A) → length xs ≡ k → ps ≡ xs ++ drop k (replicate 4 nothing) → take k ps ≡ xs
taken_new nothing k xs ps count e = ap (take k) e ∙ subst (λ n. take n (xs ++ drop k (replicate 4 nothing)) ≡ xs) count (take-append_seam xs (drop k (replicate 4 nothing)))
