-- Sums with their sums of magnitudes.
use Rattle.std.specs.Prelude.{ℕ, ◌+◌, ◌*◌}
use Rattle.qn_gauss.specs.Gaussian.{Gaussian, mag, add_g, mul_g}

-- a sum, and the sum of the magnitudes of its summands
pub record SumValue : Type 0 where
  pub value : Gaussian
  pub size : ℕ

-- the sum of magnitudes with a product more
abbrev pub size_with : SumValue → Gaussian → Gaussian → ℕ
size_with s x y = s.size + mag x * mag y

-- the sum with a product more
abbrev pub with_product : SumValue → Gaussian → Gaussian → SumValue
with_product s x y = record { value = add_g s.value (mul_g x y); size = size_with s x y }
