-- Sums over the values of bonds, as sums over numbers.
use Rattle.std.proofs.Common.{◌≡◌, ◌≢◌, ◌≤◌, ◌<◌, ℕ, zero, suc, ◌+◌, ◌*◌, ℤ, pos, negsuc, unsigned_abs, ◌⊎◌, inl, inr, subst, eq-or-lt_of_le, List, [], ◌∷◌, refl, sym, ◌∙◌, ap, ap₂, arith}
use mathlib.Core.Path.{fun_ext}
use Rattle.std.proofs.lemmas.Int.{ints}
use Rattle.std.proofs.lemmas.Nat.{div-mul-add, mod-mul-add}
use Rattle.std.proofs.Math.Nat.{mul-le-mul_right}
use Rattle.qn_gauss.specs.Gaussian.{Gaussian, zero_g, add_g, mag, limit}
use Rattle.qn_value.specs.Networks.{Bond, Assignment, assign, sum_below, sums}
use Rattle.qn_value.specs.Magnitudes.{total_below, total}
use Rattle.qn_value.specs.Numbering.{summands, numbered}
use Rattle.qn_value.proofs.RowsLemmas.{zero_add}
use Rattle.qn_value.proofs.BlockSums.{sum_below-split, sum_below-congr}

sum_below-product : (d c : ℕ) (g : ℕ → Gaussian) → sum_below (d * c) g ≡ sum_below d (λ v. sum_below c (λ w. g (v * c + w)))
sum_below-product zero c g = ap (λ n. sum_below n g) none
  where
    none : 0 * c ≡ 0
    none = omega arith
sum_below-product (suc d) c g =
    ap (λ n. sum_below n g) more ∙ sum_below-split (d * c) c g ∙ ap (λ x. add_g x (sum_below c (λ w. g (d * c + w)))) (sum_below-product d c g)
  where
    more : suc d * c ≡ d * c + c
    more = omega arith

pub sums_numbered : (bs : List Bond) (f : Assignment → Gaussian) (a : Assignment) → sums bs f a ≡ sum_below (summands bs) (λ n. f (numbered bs n a))
sums_numbered [] f a = sym (zero_add (f a))
sums_numbered (b ∷ bs) f a =
    ap (sum_below b.dim) (fun_ext (λ v.
    sums_numbered bs f (assign a b.label v)
    ∙ sum_below-congr (summands bs) _ _ (λ w l. ap₂ (λ (q : ℕ) (r : ℕ). f (numbered bs r (assign a b.label q))) (sym (div-mul-add v (summands bs) w l)) (sym (mod-mul-add v (summands bs) w l)))))
    ∙ sym (sum_below-product b.dim (summands bs) (λ n. f (numbered (b ∷ bs) n a)))

total_below-split : (n m : ℕ) (f : ℕ → ℕ) → total_below (n + m) f ≡ total_below n f + total_below m (λ v. f (n + v))
total_below-split n zero f = ap (λ k. total_below k f) plain ∙ same (total_below n f)
  where
    plain : n + 0 ≡ n
    plain = omega arith

    same : (k : ℕ) → k ≡ k + 0
    same k = omega arith
total_below-split n (suc m) f =
    ap (λ k. total_below k f) next ∙ ap (λ x. x + f (n + m)) (total_below-split n m f) ∙ group (total_below n f) (total_below m (λ v. f (n + v))) (f (n + m))
  where
    next : n + suc m ≡ suc (n + m)
    next = omega arith

    group : (x y z : ℕ) → (x + y) + z ≡ x + (y + z)
    group x y z = omega arith

pub total_below-congr : (n : ℕ) (f g : ℕ → ℕ) → ((v : ℕ) → v < n → f v ≡ g v) → total_below n f ≡ total_below n g
total_below-congr zero f g h = refl
total_below-congr (suc n) f g h = ap₂ ◌+◌ (total_below-congr n f g (λ v l. h v (omega arith))) (h n (omega arith))

total_below-product : (d c : ℕ) (g : ℕ → ℕ) → total_below (d * c) g ≡ total_below d (λ v. total_below c (λ w. g (v * c + w)))
total_below-product zero c g = ap (λ n. total_below n g) none
  where
    none : 0 * c ≡ 0
    none = omega arith
total_below-product (suc d) c g =
    ap (λ n. total_below n g) more ∙ total_below-split (d * c) c g ∙ ap (λ x. x + total_below c (λ w. g (d * c + w))) (total_below-product d c g)
  where
    more : suc d * c ≡ d * c + c
    more = omega arith

pub total_numbered : (bs : List Bond) (f : Assignment → ℕ) (a : Assignment) → total bs f a ≡ total_below (summands bs) (λ n. f (numbered bs n a))
total_numbered [] f a = one (f a)
  where
    one : (k : ℕ) → k ≡ 0 + k
    one k = omega arith
total_numbered (b ∷ bs) f a =
    ap (total_below b.dim) (fun_ext (λ v.
    total_numbered bs f (assign a b.label v)
    ∙ total_below-congr (summands bs) _ _ (λ w l. ap₂ (λ (q : ℕ) (r : ℕ). f (numbered bs r (assign a b.label q))) (sym (div-mul-add v (summands bs) w l)) (sym (mod-mul-add v (summands bs) w l)))))
    ∙ sym (total_below-product b.dim (summands bs) (λ n. f (numbered (b ∷ bs) n a)))

-- each summand is in the sum
pub total_grows : (n i : ℕ) (g : ℕ → ℕ) → i < n → total_below i g + g i ≤ total_below n g
total_grows zero i g l = absurd (omega arith)
total_grows (suc n) i g l = by (eq-or-lt_of_le below) (total_grows n i g)
  where
    below : i ≤ n
    below = omega arith

    by : (i ≡ n) ⊎ (i < n) → (i < n → total_below i g + g i ≤ total_below n g) → total_below i g + g i ≤ total_below n g + g n
    by (inl e) ih = subst (λ k. total_below k g + g k ≤ total_below n g + g n) (sym e) (omega arith)
    by (inr k) ih = let le : total_below i g + g i ≤ total_below n g = ih k in omega (arith, le)

-- a number that is not 0 has a magnitude that is not 0
pub mag_some : (x : Gaussian) → x ≢ zero_g → 0 < mag x
unfolding zero_g
mag_some x h = size x.re x.im (λ e f. h (λ i. record { re = e i; im = f i }))
  where
    size : (a b : ℤ) → (a ≡ pos 0 → b ≡ pos 0 → ⊥) → 0 < unsigned_abs a + unsigned_abs b
    size (pos zero) (pos zero) n = absurd (n refl refl)
    size (pos zero) (pos (suc m)) n = omega (arith, ints)
    size (pos zero) (negsuc m) n = omega (arith, ints)
    size (pos (suc k)) b n = omega (arith, ints)
    size (negsuc k) b n = omega (arith, ints)

-- the parts of a product of magnitudes
pub rest_passes : (m r : ℕ) → 0 < m → limit < r → limit < m * r
rest_passes m r p l =
    let one : 1 * r ≤ m * r = mul-le-mul_right r p in
    omega (arith, one, l)
