-- Numbers of two parts.
use Rattle.qn_gauss.specs.Gaussian.{Gaussian}
use Rattle.qn_kernel.specs.declared.number.Small.{Small}
use Rattle.qn_kernel.specs.declared.number.Big.{Big}

-- a number of two parts of 64 bits
abbrev pub small_value : Small → Gaussian
small_value s = record { re = s.re; im = s.im }

-- and one of two parts of 128 bits
abbrev pub big_value : Big → Gaussian
big_value s = record { re = s.re; im = s.im }
