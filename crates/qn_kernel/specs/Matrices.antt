-- Blocks as matrices, and sums of their products.
use Rattle.std.specs.Prelude.{true, ◌≡◌, ◌≤◌, ◌<◌, ◌^◌, ℕ, ◌+◌, ◌*◌, ◌/◌, ◌%◌, Bool, List, length, map, slice_index_or}
use Rattle.std.specs.List.{All, sum_by, flat_map}
use Rattle.qn_gauss.specs.Gaussian.{Gaussian, zero_g, add_g, mul_g, mag, limit, signed}
use Rattle.qn_block.specs.declared.step.StepFault.{StepFault}
use Rattle.qn_block.specs.declared.step.StepFault.TheVariants.{Passed, Memory}
use Rattle.qn_value.specs.Networks.{sum_below}
use Rattle.qn_value.specs.Magnitudes.{total_below}
use Rattle.qn_value.specs.Rows.{sum_over}

-- the number at a place of a list, and 0 past its end
abbrev pub number_at : List Gaussian → ℕ → Gaussian
number_at es n = slice_index_or es n zero_g

-- the entries that stand so far behind a place, and the entries in the order of rows and columns
abbrev pub laid_row : List Gaussian → List ℕ → ℕ → List Gaussian
laid_row es places start = map (λ p. number_at es (start + p)) places

abbrev pub laid_out : List Gaussian → List ℕ → List ℕ → List Gaussian
laid_out es rows cols = flat_map (laid_row es cols) rows

-- a block as a matrix, row by row, and whether all its parts have at most 63 bits
pub record MatrixValue : Type 0 where
  pub rows : ℕ
  pub cols : ℕ
  pub cells : List Gaussian
  pub narrow : Bool

-- two matrices that are multiplied, and whether the product is negated
pub record ProductValue : Type 0 where
  pub first : MatrixValue
  pub second : MatrixValue
  pub minus : Bool

-- the product, and that of the magnitudes, of the z-th number of a row and of a column
abbrev pub product_at : List Gaussian → List Gaussian → ℕ → ℕ → ℕ → ℕ → ℕ → Gaussian
product_at es fs inner cols x y z = mul_g (number_at es (x * inner + z)) (number_at fs (z * cols + y))

abbrev pub size_at : List Gaussian → List Gaussian → ℕ → ℕ → ℕ → ℕ → ℕ → ℕ
size_at es fs inner cols x y z = mag (number_at es (x * inner + z)) * mag (number_at fs (z * cols + y))

-- what two matrices add to a sum in a row and a column, and to the sum of magnitudes there
abbrev pub term_at : ℕ → ℕ → ProductValue → Gaussian
term_at x y s = signed s.minus (sum_below s.first.cols (product_at s.first.cells s.second.cells s.first.cols s.second.cols x y))

abbrev pub amount_at : ℕ → ℕ → ProductValue → ℕ
amount_at x y s = total_below s.first.cols (size_at s.first.cells s.second.cells s.first.cols s.second.cols x y)

-- the sum in a row and a column of the products of these matrices, and its sum of magnitudes
abbrev pub sum_at : List ProductValue → ℕ → ℕ → Gaussian
sum_at xs x y = sum_over xs (term_at x y)

abbrev pub amounts_at : List ProductValue → ℕ → ℕ → ℕ
amounts_at xs x y = sum_by (amount_at x y) xs

-- the number of products for one entry
abbrev pub steps_for : List ProductValue → ℕ
steps_for xs = sum_by (λ (s : ProductValue). s.first.cols) xs

-- a matrix of this shape, small enough to be gone through in 64 bits
pub record IsMatrix (m : MatrixValue) : Type 0 where
  pub full : length m.cells ≡ m.rows * m.cols
  pub few : length m.cells < 2 ^ 64

-- two matrices whose product has this shape
pub record IsProduct (rows cols : ℕ) (s : ProductValue) : Type 0 where
  pub first : IsMatrix s.first
  pub second : IsMatrix s.second
  pub rows_are : s.first.rows ≡ rows
  pub cols_are : s.second.cols ≡ cols
  pub inner : s.second.rows ≡ s.first.cols

-- a multiple of a line is added to a row of sums
abbrev pub AddsMultiple : ℕ → Gaussian → List Gaussian → List Gaussian → List Gaussian → Type 0
AddsMultiple cols f line old new = (y : ℕ) → y < cols → number_at new y ≡ add_g (number_at old y) (mul_g f (number_at line y))

-- the first n products of a row with each column are added to a row of sums
abbrev pub AddsProducts : List Gaussian → List Gaussian → ℕ → ℕ → Bool → ℕ → ℕ → List Gaussian → List Gaussian → Type 0
AddsProducts es fs inner cols minus x n old new =
    (y : ℕ) → y < cols → number_at new y ≡ add_g (number_at old y) (signed minus (sum_below n (product_at es fs inner cols x y)))

-- with the magnitudes of these products each sum stays within a bound
abbrev pub HasRoom : List Gaussian → List Gaussian → ℕ → ℕ → ℕ → List Gaussian → ℕ → Type 0
HasRoom es fs inner cols x old most = (y : ℕ) → y < cols → mag (number_at old y) + total_below inner (size_at es fs inner cols x y) ≤ most

-- what two matrices add in a row, and that each sum stays within a bound
abbrev pub AddsTerms : ℕ → ProductValue → List Gaussian → List Gaussian → Type 0
AddsTerms x s old new = (y : ℕ) → y < s.second.cols → number_at new y ≡ add_g (number_at old y) (term_at x y s)

abbrev pub FitsIn : ℕ → ProductValue → List Gaussian → ℕ → Type 0
FitsIn x s old most = (y : ℕ) → y < s.second.cols → mag (number_at old y) + amount_at x y s ≤ most

-- the sums of products of a row
abbrev pub AreSums : List ProductValue → ℕ → ℕ → List Gaussian → Type 0
AreSums xs cols x row = (y : ℕ) → y < cols → number_at row y ≡ sum_at xs x y

-- the sums of magnitudes of a row are at most this
abbrev pub AreAtMost : List ProductValue → ℕ → ℕ → ℕ → Type 0
AreAtMost xs cols x most = (y : ℕ) → y < cols → amounts_at xs x y ≤ most

-- the first column of a row in which the sum of magnitudes is above 2^127 - 1
pub record IsFirstInRow (xs : List ProductValue) (cols x y : ℕ) : Type 0 where
  pub here : y < cols
  pub above : limit < amounts_at xs x y
  pub before : (j : ℕ) → j < y → amounts_at xs x j ≤ limit

-- the entry of the product at a place, row by row, and its sum of magnitudes
abbrev pub place_term : ℕ → ProductValue → Gaussian
place_term n s = term_at (n / s.second.cols) (n % s.second.cols) s

abbrev pub place_amount : ℕ → ProductValue → ℕ
place_amount n s = amount_at (n / s.second.cols) (n % s.second.cols) s

abbrev pub place_sum : List ProductValue → ℕ → Gaussian
place_sum xs n = sum_over xs (place_term n)

abbrev pub place_amounts : List ProductValue → ℕ → ℕ
place_amounts xs n = sum_by (place_amount n) xs

-- matrices whose products all have one shape, with so many entries
pub record AreProducts (xs : List ProductValue) (len : ℕ) : Type 0 where
  pub rows : ℕ
  pub cols : ℕ
  pub shape : All (IsProduct rows cols) xs
  pub len_is : rows * cols ≡ len

-- the parts of both matrices have at most 63 bits
abbrev pub IsNarrow : ProductValue → Type 0
IsNarrow s = (s.first.narrow ≡ true) × (s.second.narrow ≡ true)

-- the first entry of a block whose sum of magnitudes is above 2^127 - 1
pub record IsFirstPlace (xs : List ProductValue) (len o : ℕ) : Type 0 where
  pub inside : o < len
  pub above : limit < place_amounts xs o
  pub before : (j : ℕ) → j < o → place_amounts xs j ≤ limit

abbrev pub IsFirstPassing : List ProductValue → List ℕ → ℕ → StepFault → Type 0
IsFirstPassing xs t len (Passed at offset) = (at ≡ t) × IsFirstPlace xs len offset
IsFirstPassing xs t len Memory = Unit {0}
