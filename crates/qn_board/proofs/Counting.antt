-- How often a number stands in a list that grows, and the least number of such a list.
use Rattle.std.proofs.Common.{◌≡◌, ℕ, ◌+◌, ◌<◌, ◌≤◌, ◌≢◌, ◌⊎◌, List, [], ◌∷◌, ◌++◌, cond, nat_lt, ◌==◌, min, length, get_or, eq-eqb, refl, inl, inr, ⊎_elim, arith, true, false, Bool, subst, zero, suc}
use Rattle.std.proofs.lemmas.Bool.{ltb-true, ltb-false}
use Rattle.std.proofs.lemmas.Bool.Decides.{nat_tests}
use Rattle.qn_board.specs.Lists.{occurrences, IsIn, once_below, greatest, least_of}

pub occurrences-append : (x : ℕ) (xs ys : List ℕ) → occurrences x (xs ++ ys) ≡ occurrences x xs + occurrences x ys
occurrences-append x [] ys = omega arith
occurrences-append x (y ∷ xs) ys = omega (arith, occurrences-append x xs ys)

pub once_below_next : (x n : ℕ) → once_below x (n + 1) ≡ once_below x n + cond (n == x) 1 0
once_below_next x n = grind (arith, nat_tests)

pub in_one : (x t : ℕ) → IsIn x (t ∷ []) → t ≡ x
in_one x t h = grind (arith, nat_tests)

pub in_first : (x : ℕ) (xs : List ℕ) → IsIn x (x ∷ xs)
in_first x xs = let h = eq-eqb x x refl in grind (arith, nat_tests)

pub below_of : (x n : ℕ) → 0 < once_below x n → x < n
below_of x n h = grind (arith, nat_tests)

pub least_of_le : (xs : List ℕ) → least_of xs ≤ greatest
least_of_le [] = omega arith
least_of_le (x ∷ xs) = omega (arith, least_of_le xs)

pub least_of-append : (xs ys : List ℕ) → least_of (xs ++ ys) ≡ min (least_of xs) (least_of ys)
least_of-append [] ys = omega (arith, least_of_le ys)
least_of-append (x ∷ xs) ys = omega (arith, least_of-append xs ys)

pub least_of_under : (x : ℕ) (xs : List ℕ) → IsIn x xs → least_of xs ≤ x
least_of_under x [] h = absurd (omega arith)
least_of_under x (y ∷ xs) h = go (y == x) refl (least_of_under x xs)
  where
    go : (b : Bool) → (y == x) ≡ b → (IsIn x xs → least_of xs ≤ x) → least_of (y ∷ xs) ≤ x
    go true e rec = grind (arith, nat_tests)
    go false e rec = let h' : IsIn x xs = grind (arith, nat_tests) in omega (arith, rec h')

pub least_of_member : (xs : List ℕ) → (least_of xs ≡ greatest) ⊎ IsIn (least_of xs) xs
least_of_member [] = inl refl
least_of_member (x ∷ xs) = go (nat_lt (least_of xs) x) refl (least_of_member xs)
  where
    go : (b : Bool) → nat_lt (least_of xs) x ≡ b → (least_of xs ≡ greatest) ⊎ IsIn (least_of xs) xs → (least_of (x ∷ xs) ≡ greatest) ⊎ IsIn (least_of (x ∷ xs)) (x ∷ xs)
    go true e rec = let lt : least_of xs < x = ltb-true (least_of xs) x e in let q : least_of xs ≡ min x (least_of xs) = omega arith in
        ⊎_elim (λ g. inl (omega arith)) (λ h. inr (subst (λ v. IsIn v (x ∷ xs)) q (omega (arith, h)))) rec
    go false e rec = let le : x ≤ least_of xs = ltb-false (least_of xs) x e in let q : x ≡ min x (least_of xs) = omega arith in
        inr (subst (λ v. IsIn v (x ∷ xs)) q (let h = eq-eqb x x refl in grind (arith, nat_tests)))

pub in_either : (x : ℕ) (xs ys : List ℕ) → IsIn x (xs ++ ys) → IsIn x xs ⊎ IsIn x ys
in_either x xs ys h = go (occurrences x xs) refl
  where
    go : (n : ℕ) → occurrences x xs ≡ n → IsIn x xs ⊎ IsIn x ys
    go zero e = inr (omega (arith, occurrences-append x xs ys))
    go (suc n) e = inl (omega arith)

pub in_left : (x : ℕ) (xs ys : List ℕ) → IsIn x xs → IsIn x (xs ++ ys)
in_left x xs ys h = omega (arith, occurrences-append x xs ys)

pub in_right : (x : ℕ) (xs ys : List ℕ) → IsIn x ys → IsIn x (xs ++ ys)
in_right x xs ys h = omega (arith, occurrences-append x xs ys)

pub below_none : (x : ℕ) → once_below x 0 ≡ 0
below_none x = grind (arith, nat_tests)

pub in_at : (x : ℕ) (xs : List ℕ) (i d : ℕ) → i < length xs → get_or xs i d ≡ x → IsIn x xs
in_at x [] i d h e = absurd (omega arith)
in_at x (y ∷ xs) zero d h e = grind (arith, nat_tests)
in_at x (y ∷ xs) (suc i) d h e = omega (arith, in_at x xs i d (omega arith) e)

pub in_nowhere : (x : ℕ) (xs : List ℕ) → ((i : ℕ) → i < length xs → get_or xs i 0 ≡ x → ⊥) → IsIn x xs → ⊥
in_nowhere x [] none h = omega arith
in_nowhere x (y ∷ xs) none h = let ne : y ≢ x = none 0 (omega arith) in in_nowhere x xs (λ i l e. none (suc i) (omega arith) e) (grind (arith, nat_tests))

pub below_less : (x m n : ℕ) → m ≤ n → once_below x m ≤ once_below x n
below_less x m n h = grind (arith, nat_tests)
