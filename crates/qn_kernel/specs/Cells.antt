-- The numbers of a matrix as they are held.
use Rattle.std.specs.Prelude.{◌≤◌, ℕ, Bool, true, false, List, map}
use Rattle.qn_gauss.specs.Gaussian.{Gaussian, mag}
use Rattle.qn_kernel.specs.Matrices.{number_at}
use Rattle.qn_kernel.specs.Numbers.{small_value}
use Rattle.qn_kernel.specs.declared.matrix.Cells.{Cells}
use Rattle.qn_kernel.specs.declared.matrix.Cells.TheVariants.{Wide, Narrow}

abbrev pub cells_of : Cells → List Gaussian
cells_of (Wide v) = v.items
cells_of (Narrow v) = map small_value v.items

abbrev pub are_narrow : Cells → Bool
are_narrow (Wide v) = false
are_narrow (Narrow v) = true

-- the magnitudes are at most this
abbrev pub AreWithin : ℕ → List Gaussian → Type 0
AreWithin most es = (i : ℕ) → mag (number_at es i) ≤ most
