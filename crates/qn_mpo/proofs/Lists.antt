-- The operators of two lists, one after the other.
use Rattle.std.proofs.Common.{◌≡◌, ℕ, suc, ◌+◌, ◌<◌, Bool, true, false, cond, List, [], ◌∷◌, ◌++◌, ◌==◌, length, get_or, take, take-suc, refl, sym, ap, ◌∙◌, arith}
use Rattle.std.specs.Prelude.{nat_lt}
use Rattle.qn_opsum.specs.Strings.{Factor}
use Rattle.qn_auto.specs.Automaton.{after}
use Rattle.qn_auto.specs.Flux.{ops_at}

pub after_append : (j : ℕ) (xs ys : List Factor) → after j (xs ++ ys) ≡ after j xs ++ after j ys
after_append j [] ys = refl
after_append j (x ∷ xs) ys = by (nat_lt j x.site) (after_append j xs ys)
  where
    by : (b : Bool) → after j (xs ++ ys) ≡ after j xs ++ after j ys → cond b (x ∷ after j (xs ++ ys)) (after j (xs ++ ys)) ≡ cond b (x ∷ after j xs) (after j xs) ++ after j ys
    by true e = ap (λ zs. x ∷ zs) e
    by false e = e

pub ops_append : (j : ℕ) (xs ys : List Factor) → ops_at j (xs ++ ys) ≡ ops_at j xs ++ ops_at j ys
ops_append j [] ys = refl
ops_append j (x ∷ xs) ys = by (x.site == j) (ops_append j xs ys)
  where
    by : (b : Bool) → ops_at j (xs ++ ys) ≡ ops_at j xs ++ ops_at j ys → cond b (x.op ∷ ops_at j (xs ++ ys)) (ops_at j (xs ++ ys)) ≡ cond b (x.op ∷ ops_at j xs) (ops_at j xs) ++ ops_at j ys
    by true e = ap (λ zs. x.op ∷ zs) e
    by false e = e

-- the first i + 1 elements
pub take_next : {A : Type 0} (xs : List A) (i : ℕ) (x : A) → i < length xs → x ≡ get_or xs i x → take (i + 1) xs ≡ take i xs ++ (x ∷ [])
take_next xs i x lt e = ap (λ n. take n xs) (next i) ∙ (take-suc xs i x lt ∙ ap (λ y. take i xs ++ (y ∷ [])) (sym e))
  where
    next : (i : ℕ) → i + 1 ≡ suc i
    next i = omega arith

pub after_next : (j : ℕ) (fs : List Factor) (i : ℕ) (f : Factor) (old new : List Factor) → i < length fs → f ≡ get_or fs i f →
    old ≡ after j (take i fs) → new ≡ old ++ after j (f ∷ []) → new ≡ after j (take (i + 1) fs)
after_next j fs i f old new lt is e n =
    n ∙ (ap (λ zs. zs ++ after j (f ∷ [])) e ∙ (sym (after_append j (take i fs) (f ∷ [])) ∙ ap (after j) (sym (take_next fs i f lt is))))

pub ops_next : (j : ℕ) (fs : List Factor) (i : ℕ) (f : Factor) (old new : List ℕ) → i < length fs → f ≡ get_or fs i f →
    old ≡ ops_at j (take i fs) → new ≡ old ++ ops_at j (f ∷ []) → new ≡ ops_at j (take (i + 1) fs)
ops_next j fs i f old new lt is e n =
    n ∙ (ap (λ zs. zs ++ ops_at j (f ∷ [])) e ∙ (sym (ops_append j (take i fs) (f ∷ [])) ∙ ap (ops_at j) (sym (take_next fs i f lt is))))
