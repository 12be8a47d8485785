-- Products of operators on one site, made from left to right.
use Rattle.std.proofs.Common.{◌≡◌, ℕ, zero, suc, ◌<◌, ◌≤◌, ◌⊎◌, inl, inr, Bool, true, false, ◌==◌, cond, List, [], ◌∷◌, refl, sym, ◌∙◌, ap, ap₂, arith}
use mathlib.Core.Path.{fun_ext}
use Rattle.std.proofs.lemmas.Bool.Decides.{nat_tests}
use Rattle.qn_gauss.specs.Gaussian.{Gaussian, zero_g, one_g, add_g, mul_g}
use Rattle.qn_gauss.proofs.Ring.{mul_comm, mul_assoc, mul_one, mul_zero, add_comm, add_zero}
use Rattle.qn_value.specs.Networks.{sum_below}
use Rattle.qn_value.proofs.Sums.{sum_below-scale, sum_below-swap}
use Rattle.qn_opsum.specs.Strings.{Sites, identity, matrix}
use Rattle.qn_opsum.proofs.Products.{same_number, below_cases}
use Rattle.qn_auto.specs.Flux.{times_op, left_product, on_site}

sum_none : (n y : ℕ) (f : ℕ → Gaussian) → n ≤ y → sum_below n (λ v. mul_g (f v) (identity v y)) ≡ zero_g
sum_none zero y f h = refl
sum_none (suc n) y f h =
    ap₂ add_g (sum_none n y f (less n y h)) (ap (λ b. mul_g (f n) (cond b one_g zero_g)) (differ n y h) ∙ mul_zero (f n)) ∙ add_zero zero_g
  where
    less : (n y : ℕ) → suc n ≤ y → n ≤ y
    less n y h = omega (arith, h)

    differ : (n y : ℕ) → suc n ≤ y → (n == y) ≡ false
    differ n y h = grind (arith, nat_tests)

-- times the identity
sum_one : (n y : ℕ) (f : ℕ → Gaussian) → y < n → sum_below n (λ v. mul_g (f v) (identity v y)) ≡ f y
sum_one zero y f h = absurd (none y h)
  where
    none : (y : ℕ) → y < 0 → ⊥
    none y h = omega (arith, h)
sum_one (suc n) y f h = go (below_cases y n h) (sum_one n y f)
  where
    differ : (n y : ℕ) → y < n → (n == y) ≡ false
    differ n y h = grind (arith, nat_tests)

    same : (n y : ℕ) → y ≡ n → (n == y) ≡ true
    same n y e = grind (arith, nat_tests)

    reach : (n y : ℕ) → y ≡ n → n ≤ y
    reach n y e = omega (arith, e)

    go : (y < n) ⊎ (y ≡ n) → (y < n → sum_below n (λ v. mul_g (f v) (identity v y)) ≡ f y) →
        add_g (sum_below n (λ v. mul_g (f v) (identity v y))) (mul_g (f n) (identity n y)) ≡ f y
    go (inl b) ih = ap₂ add_g (ih b) (ap (λ c. mul_g (f n) (cond c one_g zero_g)) (differ n y b) ∙ mul_zero (f n)) ∙ add_zero (f y)
    go (inr e) ih =
        ap₂ add_g (sum_none n y f (reach n y e)) (ap (λ c. mul_g (f n) (cond c one_g zero_g)) (same n y e) ∙ mul_one (f n))
        ∙ add_comm zero_g (f n) ∙ add_zero (f n) ∙ ap f (sym e)

left_step : (S : Sites) (k : ℕ) (os : List ℕ) (p : ℕ → ℕ → Gaussian) (x y : ℕ) → y < S.dim k →
    left_product S k p os x y ≡ sum_below (S.dim k) (λ v. mul_g (p x v) (matrix S (on_site k os) k v y))
left_step S k [] p x y h = sym (sum_one (S.dim k) y (p x) h)
left_step S k (o ∷ os) p x y h =
    left_step S k os (times_op S k p o) x y h
    ∙ ap (sum_below (S.dim k)) (fun_ext (λ v.
    mul_comm (times_op S k p o x v) (m v)
    ∙ sym (sum_below-scale (S.dim k) (m v) (λ u. mul_g (p x u) (S.table k o u v)))
    ∙ ap (sum_below (S.dim k)) (fun_ext (λ u. mul_comm (m v) (mul_g (p x u) (S.table k o u v)) ∙ mul_assoc (p x u) (S.table k o u v) (m v)))))
    ∙ sum_below-swap (S.dim k) (S.dim k) (λ v u. mul_g (p x u) (mul_g (S.table k o u v) (m v)))
    ∙ ap (sum_below (S.dim k)) (fun_ext (λ u.
    sum_below-scale (S.dim k) (p x u) (λ v. mul_g (S.table k o u v) (m v))
    ∙ ap (λ b. mul_g (p x u) (cond b (sum_below (S.dim k) (λ v. mul_g (S.table k o u v) (m v))) (m u))) (sym (same_number k))))
  where
    m : ℕ → Gaussian
    m v = matrix S (on_site k os) k v y

pub left_product_law : (S : Sites) (k o : ℕ) (os : List ℕ) (x y : ℕ) → y < S.dim k →
    left_product S k (S.table k o) os x y ≡ matrix S (on_site k (o ∷ os)) k x y
left_product_law S k o os x y h =
    left_step S k os (S.table k o) x y h
    ∙ ap (λ b. cond b (sum_below (S.dim k) (λ v. mul_g (S.table k o x v) (matrix S (on_site k os) k v y))) (matrix S (on_site k os) k x y)) (sym (same_number k))
