-- Sizes of sums and products of whole numbers.
use Rattle.std.proofs.Common.{◌≡◌, ℕ, ◌+◌, ◌*◌, ◌≤◌, ℤ, pos, ◌+ℤ◌, ◌-ℤ◌, ◌*ℤ◌, neg_ℤ, unsigned_abs, refl, ap₂, arith}
use Rattle.std.proofs.lemmas.Int.{ints, unsigned_abs-mul}
use Rattle.qn_gauss.specs.Gaussian.{Gaussian, mag, zero_g, add_g, mul_g, neg_g}
use Rattle.qn_gauss.proofs.Ring.{gauss_path}

pub abs-add : (a b : ℤ) → unsigned_abs (a +ℤ b) ≤ unsigned_abs a + unsigned_abs b
abs-add a b = omega (arith, ints)

pub abs-sub : (a b : ℤ) → unsigned_abs (a -ℤ b) ≤ unsigned_abs a + unsigned_abs b
abs-sub a b = omega (arith, ints)

-- four products of two magnitudes
four : (a b c d : ℕ) → (a * c + b * d) + (a * d + b * c) ≡ (a + b) * (c + d)
four a b c d = omega arith

pub mag-mul : (x y : Gaussian) → mag (mul_g x y) ≤ mag x * mag y
unfolding mul_g
mag-mul x y =
    omega (
      arith,
      abs-sub (x.re *ℤ y.re) (x.im *ℤ y.im),
      abs-add (x.re *ℤ y.im) (x.im *ℤ y.re),
      unsigned_abs-mul x.re y.re,
      unsigned_abs-mul x.im y.im,
      unsigned_abs-mul x.re y.im,
      unsigned_abs-mul x.im y.re,
      four (unsigned_abs x.re) (unsigned_abs x.im) (unsigned_abs y.re) (unsigned_abs y.im),
    )

pub mag-add : (x y : Gaussian) → mag (add_g x y) ≤ mag x + mag y
unfolding add_g
mag-add x y = omega (arith, abs-add x.re y.re, abs-add x.im y.im)

-- a number and its negative are of one size
abs-neg : (a : ℤ) → unsigned_abs (neg_ℤ a) ≡ unsigned_abs a
abs-neg a = omega (arith, ints)

pub mag-neg : (x : Gaussian) → mag (neg_g x) ≡ mag x
unfolding neg_g
mag-neg x = ap₂ ◌+◌ (abs-neg x.re) (abs-neg x.im)

pub mag_zero : mag zero_g ≡ 0
unfolding zero_g
mag_zero = refl

-- only zero has the magnitude 0
pub mag-eq-zero : (x : Gaussian) → mag x ≡ 0 → x ≡ zero_g
unfolding zero_g
mag-eq-zero x e = gauss_path x zero_g (no_size x.re (omega arith)) (no_size x.im (omega arith))
  where
    no_size : (a : ℤ) → unsigned_abs a ≡ 0 → a ≡ pos 0
    no_size a e = omega (arith, ints)

-- the two products in the real part, and those in the imaginary part, stay within what the magnitudes' product stays within
pub re-parts : (x y : Gaussian) (n : ℕ) → mag x * mag y ≤ n → unsigned_abs (x.re *ℤ y.re) + unsigned_abs (x.im *ℤ y.im) ≤ n
re-parts x y n h =
    omega (
      arith,
      unsigned_abs-mul x.re y.re,
      unsigned_abs-mul x.im y.im,
      four (unsigned_abs x.re) (unsigned_abs x.im) (unsigned_abs y.re) (unsigned_abs y.im),
    )

pub im-parts : (x y : Gaussian) (n : ℕ) → mag x * mag y ≤ n → unsigned_abs (x.re *ℤ y.im) + unsigned_abs (x.im *ℤ y.re) ≤ n
im-parts x y n h =
    omega (
      arith,
      unsigned_abs-mul x.re y.im,
      unsigned_abs-mul x.im y.re,
      four (unsigned_abs x.re) (unsigned_abs x.im) (unsigned_abs y.re) (unsigned_abs y.im),
    )
