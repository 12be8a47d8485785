-- Square tables as the program holds them, row after row, and why one could not be made.
use Rattle.std.specs.Prelude.{◌≡◌, ◌<◌, ◌+◌, ◌*◌, ℕ, List, length, slice_index_or}
use Rattle.qn_gauss.specs.Gaussian.{Gaussian, zero_g, mag, mul_g}
use Rattle.qn_value.specs.Networks.{sum_below}
use Rattle.qn_value.specs.Magnitudes.{total_below}
use Rattle.qn_index.specs.Legs.{total}
use Rattle.qn_sites.specs.Operators.{element}
use Rattle.qn_sites.specs.Sites.{SiteValue}
use Rattle.qn_opsum.specs.Sums.{op_at}
use Rattle.qn_mpo.specs.declared.fault.Stop.{Stop}
use Rattle.qn_mpo.specs.declared.fault.Stop.TheVariants.{Passes, Memory}

-- the entry at a row and a column of a table of this dimension
abbrev pub cell : ℕ → List Gaussian → ℕ → ℕ → Gaussian
cell dim t x y = slice_index_or t (x * dim + y) zero_g

-- a table with the values of a function at the rows and columns of its dimension
pub record IsTableOf (dim : ℕ) (f : ℕ → ℕ → Gaussian) (t : List Gaussian) : Type 0 where
  pub full : length t ≡ dim * dim
  pub entries : (x y : ℕ) → x < dim → y < dim → cell dim t x y ≡ f x y

-- the tables of all operators of a site, in their order
pub record AreTables (s : SiteValue) (ts : List (List Gaussian)) : Type 0 where
  pub count : length ts ≡ length s.ops
  pub tables : (o : ℕ) (d : List Gaussian) → o < length ts → IsTableOf (total s.leg.sectors) (element (op_at s.ops o)) (slice_index_or ts o d)

-- an entry of the product of two tables, and the sum of the magnitudes of its summands
abbrev pub entry_sum : ℕ → List Gaussian → List Gaussian → ℕ → ℕ → Gaussian
entry_sum dim p q x y = sum_below dim (λ v. mul_g (cell dim p x v) (cell dim q v y))

abbrev pub entry_size : ℕ → List Gaussian → List Gaussian → ℕ → ℕ → ℕ
entry_size dim p q x y = total_below dim (λ v. mag (cell dim p x v) * mag (cell dim q v y))

-- it passes where P holds; want of memory is free
abbrev pub IsStop : Type 0 → Stop → Type 0
IsStop P Passes = P
IsStop P Memory = Unit {0}
