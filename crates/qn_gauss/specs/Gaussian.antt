-- Gaussian integers of any size: the ring of all re + im i with whole re and im (Gauss 1832).
use Rattle.std.specs.Prelude.{ℕ, ℤ, pos, ◌+ℤ◌, ◌-ℤ◌, ◌*ℤ◌, ◌+◌, ◌-◌, ◌^◌, neg_ℤ, unsigned_abs, Bool, true, false}

-- re + im i
pub record Gaussian : Type 0 where
  pub re : ℤ
  pub im : ℤ

-- magnitude: |re| + |im|
abbrev pub mag : Gaussian → ℕ
mag z = unsigned_abs z.re + unsigned_abs z.im

-- the greatest magnitude that the engine keeps
abbrev pub limit : ℕ
limit = 2 ^ 127 - 1

-- zero
unfoldable pub zero_g : Gaussian
zero_g = record { re = pos 0; im = pos 0 }

-- one
unfoldable pub one_g : Gaussian
one_g = record { re = pos 1; im = pos 0 }

-- the sum, part by part
unfoldable pub add_g : Gaussian → Gaussian → Gaussian
add_g a b = record { re = a.re +ℤ b.re; im = a.im +ℤ b.im }

-- the product, where i times i is -1
unfoldable pub mul_g : Gaussian → Gaussian → Gaussian
mul_g a b = record {
  re = (a.re *ℤ b.re) -ℤ (a.im *ℤ b.im);
  im = (a.re *ℤ b.im) +ℤ (a.im *ℤ b.re);
}

-- the negative
unfoldable pub neg_g : Gaussian → Gaussian
neg_g a = record { re = neg_ℤ a.re; im = neg_ℤ a.im }

-- the complex conjugate: the sign of the imaginary part is turned
unfoldable pub conj_g : Gaussian → Gaussian
conj_g a = record { re = a.re; im = neg_ℤ a.im }

-- the number with the sign -1 where the parity is odd
abbrev pub signed : Bool → Gaussian → Gaussian
signed true z = neg_g z
signed false z = z
