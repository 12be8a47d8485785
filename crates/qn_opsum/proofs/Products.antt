-- Products over sites, and changes of a state.
use Rattle.std.proofs.Common.{List, [], ◌∷◌, ◌≡◌, ℕ, zero, suc, ◌<◌, ◌≤◌, ◌⊎◌, inl, inr, true, false, ◌==◌, cond, refl, sym, ◌∙◌, ap, ap₂, arith}
use Rattle.std.proofs.lemmas.Bool.Decides.{nat_tests}
use Rattle.qn_sign.specs.Sign.{xor}
use Rattle.qn_gauss.specs.Gaussian.{Gaussian, zero_g, one_g, mul_g}
use Rattle.qn_gauss.proofs.Ring.{mul_comm, mul_assoc, mul_one, mul_zero}
use Rattle.qn_opsum.specs.Strings.{Sites, State, put, odd_before, product_below}

-- numbers

pub same_number : (k : ℕ) → (k == k) ≡ true
same_number k = grind (arith, nat_tests)

pub above_differs : (k n : ℕ) → k < n → (n == k) ≡ false
above_differs k n h = grind (arith, nat_tests)

pub below_suc : (k n : ℕ) → k < n → k < suc n
below_suc k n h = omega arith

pub last_below : (n : ℕ) → n < suc n
last_below n = omega arith

pub below_cases : (j n : ℕ) → j < suc n → (j < n) ⊎ (j ≡ n)
below_cases j n h = grind arith

-- products

pub product-agree : (n : ℕ) (f g : ℕ → Gaussian) → ((k : ℕ) → k < n → f k ≡ g k) → product_below n f ≡ product_below n g
product-agree zero f g h = refl
product-agree (suc n) f g h = ap₂ mul_g (product-agree n f g (λ k b. h k (below_suc k n b))) (h n (last_below n))

-- one factor goes to the front
pub product-split : (n j : ℕ) (f : ℕ → Gaussian) → j < n → product_below n f ≡ mul_g (f j) (product_below n (λ k. cond (k == j) one_g (f k)))
product-split zero j f h = absurd (none j h)
  where
    none : (j : ℕ) → j < 0 → ⊥
    none j h = omega arith
product-split (suc n) j f h = go (below_cases j n h) (product-split n j f)
  where
    rest : ℕ → Gaussian
    rest k = cond (k == j) one_g (f k)

    go : (j < n) ⊎ (j ≡ n) → (j < n → product_below n f ≡ mul_g (f j) (product_below n (λ k. cond (k == j) one_g (f k)))) →
        mul_g (product_below n f) (f n) ≡ mul_g (f j) (mul_g (product_below n (λ k. cond (k == j) one_g (f k))) (cond (n == j) one_g (f n)))
    go (inl b) ih =
        ap (λ x. mul_g x (f n)) (ih b)
        ∙ mul_assoc (f j) (product_below n (λ k. cond (k == j) one_g (f k))) (f n)
        ∙ ap (λ c. mul_g (f j) (mul_g (product_below n (λ k. cond (k == j) one_g (f k))) (cond c one_g (f n)))) (sym (above_differs j n b))
    go (inr e) ih =
        mul_comm (product_below n f) (f n)
        ∙ ap₂ mul_g (ap f (sym e))
        (product-agree n f (λ k. cond (k == j) one_g (f k)) (λ k b. ap (λ c. cond c one_g (f k)) (sym (differs k b e)))
        ∙ sym (mul_one (product_below n (λ k. cond (k == j) one_g (f k))))
        ∙ ap (λ c. mul_g (product_below n (λ k. cond (k == j) one_g (f k))) (cond c one_g (f n))) (sym (same e)))
      where
        differs : (k : ℕ) → k < n → j ≡ n → (k == j) ≡ false
        differs k b e = grind (arith, nat_tests)

        same : j ≡ n → (n == j) ≡ true
        same e = grind (arith, nat_tests)

-- a factor 0
pub product-zero : (n j : ℕ) (f : ℕ → Gaussian) → j ≤ n → product_below j f ≡ zero_g → product_below n f ≡ zero_g
product-zero zero j f h e = ap (λ k. product_below k f) (none j h) ∙ e
  where
    none : (j : ℕ) → j ≤ 0 → 0 ≡ j
    none j h = omega arith
product-zero (suc n) j f h e = go (cases j n h) (product-zero n j f)
  where
    cases : (j n : ℕ) → j ≤ suc n → (j ≤ n) ⊎ (j ≡ suc n)
    cases j n h = grind arith

    go : (j ≤ n) ⊎ (j ≡ suc n) → (j ≤ n → product_below j f ≡ zero_g → product_below n f ≡ zero_g) → mul_g (product_below n f) (f n) ≡ zero_g
    go (inl b) ih = ap (λ x. mul_g x (f n)) (ih b e) ∙ mul_comm zero_g (f n) ∙ mul_zero (f n)
    go (inr q) ih = ap (λ k. product_below k f) (sym q) ∙ e

-- states

pub odd_before-put : (S : Sites) (m j v : ℕ) (s : State) → m ≤ j → odd_before S m (put s j v) ≡ odd_before S m s
odd_before-put S zero j v s h = refl
odd_before-put S (suc m) j v s h =
    ap₂ xor (odd_before-put S m j v s (less m j h)) (ap (λ b. S.odd_value m (cond b v (s m))) (differs m j h))
  where
    less : (m j : ℕ) → suc m ≤ j → m ≤ j
    less m j h = omega arith

    differs : (m j : ℕ) → suc m ≤ j → (m == j) ≡ false
    differs m j h = grind (arith, nat_tests)

-- the numbers j, j + 1, .. , m of them
abbrev pub numbers : ℕ → ℕ → List ℕ
numbers j zero = []
numbers j (suc m) = j ∷ numbers (suc j) m
