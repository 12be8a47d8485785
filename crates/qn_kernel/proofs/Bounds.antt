-- What sums of magnitudes are at most, in numbers that stop at 2^128 - 1.
use Rattle.std.proofs.Common.{◌≡◌, ◌≤◌, ◌<◌, ◌^◌, ◌-◌, ℕ, zero, suc, ◌+◌, ◌*◌, List, [], ◌∷◌, length, min, arith}
use Rattle.std.proofs.Math.Nat.{mul-le-mul, mul-le-mul_left, mul-le-mul_right}
use Rattle.qn_gauss.specs.Gaussian.{Gaussian, mag, limit}
use Rattle.qn_gauss.proofs.Size.{mag_zero}
use Rattle.qn_value.specs.Magnitudes.{total_below}
use Rattle.qn_kernel.specs.Matrices.{number_at, size_at}
use Rattle.qn_kernel.specs.Cells.{AreWithin}

-- a product of numbers that are at most others, where those are in range
pub cover_mul : (a b r s t : ℕ) → t ≡ min (r * s) (2 ^ 128 - 1) → (r ≤ limit → a ≤ r) → (s ≤ limit → b ≤ s) → t ≤ limit → a * b ≤ t
cover_mul a b zero s t e f g h =
    let none : a ≤ 0 = f (omega arith) in
    let all : a * b ≤ 0 * b = mul-le-mul_right b none in
    omega (arith, all)
cover_mul a b (suc r) zero t e f g h =
    let none : b ≤ 0 = g (omega arith) in
    let all : a * b ≤ a * 0 = mul-le-mul_left a none in
    omega (arith, all)
cover_mul a b (suc r) (suc s) t e f g h =
    let whole : suc r * suc s ≤ limit = omega (arith, e, h) in
    let one : a ≤ suc r = f (omega (arith, whole)) in
    let two : b ≤ suc s = g (omega (arith, whole)) in
    omega (arith, e, whole, mul-le-mul one two)

total_most : (m : ℕ → ℕ) (b n : ℕ) → ((z : ℕ) → m z ≤ b) → total_below n m ≤ b * n
total_most m b zero h = omega arith
total_most m b (suc n) h = omega (arith, total_most m b n h, h n)

-- a sum of steps_for, by the greatest factors
pub one_most : (es fs : List Gaussian) (inner cols x y a b r t : ℕ) → AreWithin a es → AreWithin b fs → r ≡ min (a * b) (2 ^ 128 - 1) → t ≡ min (r * inner) (2 ^ 128 - 1) → t ≤ limit → total_below inner (size_at es fs inner cols x y) ≤ t
one_most es fs inner cols x y a b r t f g e k h =
    let all : a * b * inner ≤ t = cover_mul (a * b) inner r inner t k (λ l. omega (arith, e, l)) (λ l. omega arith) h in
    omega (
      arith,
      all,
      total_most (size_at es fs inner cols x y) (a * b) inner (λ z. mul-le-mul (f (x * inner + z)) (g (z * cols + y))),
    )

-- and by the sum of a row
total_row : (m k : ℕ → ℕ) (b n : ℕ) → ((z : ℕ) → k z ≤ b) → total_below n (λ z. m z * k z) ≤ total_below n m * b
total_row m k b zero h = omega arith
total_row m k b (suc n) h =
    let one : m n * k n ≤ m n * b = mul-le-mul_left (m n) (h n) in
    omega (arith, total_row m k b n h, one)

pub row_most : (es fs : List Gaussian) (inner cols x y a b t : ℕ) → (a ≤ limit → total_below inner (λ z. mag (number_at es (x * inner + z))) ≤ a) → AreWithin b fs → t ≡ min (a * b) (2 ^ 128 - 1) → t ≤ limit → total_below inner (size_at es fs inner cols x y) ≤ t
row_most es fs inner cols x y a b t f g e h =
    let all : total_below inner (λ z. mag (number_at es (x * inner + z))) * b ≤ t = cover_mul (total_below inner (λ z. mag (number_at es (x * inner + z)))) b a b t e f (λ l. omega arith) h in
    omega (arith, all, total_row (λ z. mag (number_at es (x * inner + z))) (λ z. mag (number_at fs (z * cols + y))) b inner (λ z. g (z * cols + y)))

-- past the end of a list stands 0
pub within_all : (es : List Gaussian) (most : ℕ) → ((i : ℕ) → i < length es → mag (number_at es i) ≤ most) → AreWithin most es
within_all [] most h i = omega (arith, mag_zero)
within_all (e ∷ es) most h zero = h 0 (omega arith)
within_all (e ∷ es) most h (suc i) = within_all es most (λ k l. h (suc k) (omega arith)) i
