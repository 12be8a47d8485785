-- A contraction of two tensors block by block, by strides.
-- Fishman, White and Stoudenmire 2022.
use Rattle.std.specs.Prelude.{◌≡◌, ◌==◌, ◌≤◌, ◌<◌, ◌^◌, ℕ, ◌+◌, ◌*◌, Bool, true, false, List, [], ◌∷◌, ◌++◌, length, map, replicate, take, drop, slice_index_or}
use Rattle.std.specs.List.{All, sum_by, flat_map}
use Rattle.qn_sign.specs.Positions.{positions, is_odd_at}
use Rattle.qn_sign.specs.Sign.{exchange_sign, xor}
use Rattle.qn_gauss.specs.Gaussian.{Gaussian, zero_g, mul_g, mag, limit, signed}
use Rattle.qn_charge.specs.declared.factor.Factor.{Factor}
use Rattle.qn_index.specs.Legs.{LegValue, sector_at}
use Rattle.qn_index.specs.Tuples.{IsTuple}
use Rattle.qn_index.specs.Places.{block_size}
use Rattle.qn_value.specs.Networks.{sum_below}
use Rattle.qn_value.specs.Tensors.{BlockValue}
use Rattle.qn_value.specs.Local.{no_leg, IsCoupling}
use Rattle.qn_value.specs.Magnitudes.{total_below}
use Rattle.qn_value.specs.Rows.{sum_over}
use Rattle.qn_block.specs.Refusals.{block_at}
use Rattle.qn_block.specs.declared.step.StepFault.{StepFault}
use Rattle.qn_block.specs.declared.step.StepFault.TheVariants.{Passed, Memory}
use Rattle.qn_strides.specs.Strides.{KeptValue, kept_axes, start_of, strides, sector_parities, goal_places, open_places, IsKept}

-- the places of the shared legs in the word of two tensors, the first of which has n legs
abbrev pub couples_of : ℕ → List (ℕ × ℕ) → List (ℕ × ℕ)
couples_of n shared = map (λ p. (p.0, n + p.1)) shared

-- a shared pair of legs in two blocks: how many values it has, and how far apart the entries of neighbouring values stand in each block
pub record PairedValue : Type 0 where
  pub len : ℕ
  pub first : ℕ
  pub second : ℕ

-- the shared pairs of legs of two blocks with these strides
abbrev pub paired_axes : List LegValue → List ℕ → List ℕ → List ℕ → List (ℕ × ℕ) → List PairedValue
paired_axes ks t ws us [] = []
paired_axes ks t ws us (p ∷ ps) =
    record {
      len = (sector_at (slice_index_or ks p.0 no_leg).sectors (slice_index_or t p.0 0)).dim;
      first = slice_index_or ws p.0 0;
      second = slice_index_or us p.1 0;
    } ∷ paired_axes ks t ws us ps

-- the sum over the values of the shared pairs, from a place in each block on
abbrev pub sum_both : (ℕ → ℕ → Gaussian) → List PairedValue → ℕ → ℕ → Gaussian
sum_both g [] p q = g p q
sum_both g (x ∷ xs) p q = sum_below x.len (λ v. sum_both g xs (p + v * x.first) (q + v * x.second))

-- the same for natural numbers
abbrev pub total_both : (ℕ → ℕ → ℕ) → List PairedValue → ℕ → ℕ → ℕ
total_both g [] p q = g p q
total_both g (x ∷ xs) p q = total_below x.len (λ v. total_both g xs (p + v * x.first) (q + v * x.second))

-- the number of values of the shared pairs
abbrev pub all_values : List PairedValue → ℕ
all_values [] = 1
all_values (x ∷ xs) = x.len * all_values xs

-- the product of an entry of each block, and that of their magnitudes
abbrev pub product_at : List Gaussian → List Gaussian → ℕ → ℕ → Gaussian
product_at es fs p q = mul_g (slice_index_or es p zero_g) (slice_index_or fs q zero_g)

abbrev pub size_at : List Gaussian → List Gaussian → ℕ → ℕ → ℕ
size_at es fs p q = mag (slice_index_or es p zero_g) * mag (slice_index_or fs q zero_g)

-- two blocks that are multiplied for a block of the result: their entries, the sign, and how they are gone through
pub record SourceValue : Type 0 where
  pub firsts : List Gaussian
  pub seconds : List Gaussian
  pub minus : Bool
  pub first_kept : List KeptValue
  pub second_kept : List KeptValue
  pub paired : List PairedValue
  pub rows : ℕ
  pub cols : ℕ

-- how far apart the entries of neighbouring values stand in the first block, and in the second
abbrev pub stride_in : Bool → PairedValue → ℕ
stride_in false x = x.first
stride_in true x = x.second

-- the places of a block's entries at all values of the shared pairs, from a place on
abbrev pub shared_places : (PairedValue → ℕ) → List PairedValue → ℕ → List ℕ
shared_places w [] p = p ∷ []
shared_places w (x ∷ xs) p = flat_map (λ v. shared_places w xs (p + v * w x)) (positions x.len)

-- two blocks for the result's block at a tuple; all signs are turned where `turned` holds
abbrev pub source_of : List Factor → List LegValue → List LegValue → List (ℕ × ℕ) → Bool → List LegValue → List ℕ → BlockValue → BlockValue → SourceValue
source_of fs ks ls shared turned rs ss x y =
    let cs : List (ℕ × ℕ) = couples_of (length ks) shared in
    let word : List LegValue = ks ++ ls in
    record {
      firsts = x.entries;
      seconds = y.entries;
      minus = xor turned (exchange_sign ◌==◌ (is_odd_at (sector_parities fs word (x.tuple ++ y.tuple))) (positions (length word)) (goal_places word cs));
      first_kept = kept_axes (strides ks x.tuple) rs ss (open_places cs (length word));
      second_kept = kept_axes (replicate (length ks) 0 ++ strides ls y.tuple) rs ss (open_places cs (length word));
      paired = paired_axes ks x.tuple (strides ks x.tuple) (strides ls y.tuple) shared;
      rows = block_size (take (length (open_places cs (length ks))) rs) (take (length (open_places cs (length ks))) ss);
      cols = block_size (drop (length (open_places cs (length ks))) rs) (drop (length (open_places cs (length ks))) ss);
    }

-- the pairs of blocks at these positions
abbrev pub sources : List Factor → List LegValue → List LegValue → List (ℕ × ℕ) → Bool → List LegValue → List ℕ → List BlockValue → List BlockValue → List (ℕ × ℕ) → List SourceValue
sources fs ks ls shared turned rs ss bs ds pairs = map (λ p. source_of fs ks ls shared turned rs ss (block_at bs p.0) (block_at ds p.1)) pairs

-- what two blocks add to the n-th entry of the result's block
abbrev pub source_term : ℕ → SourceValue → Gaussian
source_term n x = signed x.minus (sum_both (product_at x.firsts x.seconds) x.paired (start_of x.first_kept n) (start_of x.second_kept n))

abbrev pub source_size : ℕ → SourceValue → ℕ
source_size n x = total_both (size_at x.firsts x.seconds) x.paired (start_of x.first_kept n) (start_of x.second_kept n)

-- the n-th entry of the result's block
abbrev pub entry_sum : List SourceValue → ℕ → Gaussian
entry_sum xs n = sum_over xs (source_term n)

-- the sum of magnitudes there
abbrev pub size_sum : List SourceValue → ℕ → ℕ
size_sum xs n = sum_by (source_size n) xs

-- the number of products for one entry of the result's block
abbrev pub products : List SourceValue → ℕ
products xs = sum_by (λ x. all_values x.paired) xs

-- numbers small enough to be gone through in 64 bits

abbrev pub IsPaired : PairedValue → Type 0
IsPaired x = (x.len ≤ 2 ^ 16) × (x.first ≤ 2 ^ 22) × (x.second ≤ 2 ^ 22)

pub record IsSource (rows cols : ℕ) (x : SourceValue) : Type 0 where
  pub few_first : length x.first_kept ≤ 64
  pub few_second : length x.second_kept ≤ 64
  pub few_paired : length x.paired ≤ 64
  pub first : All IsKept x.first_kept
  pub second : All IsKept x.second_kept
  pub paired : All IsPaired x.paired
  pub few_rows : rows ≤ 2 ^ 22
  pub few_cols : cols ≤ 2 ^ 22
  pub rows_are : x.rows ≡ rows
  pub cols_are : x.cols ≡ cols
  pub row_start : (i j : ℕ) → i < rows → j < cols → start_of x.first_kept (i * cols + j) ≡ start_of x.first_kept (i * cols)
  pub col_start : (i j : ℕ) → i < rows → j < cols → start_of x.second_kept (i * cols + j) ≡ start_of x.second_kept j

-- pairs of blocks for one block of the result, with so many entries
pub record AreSources (len : ℕ) (xs : List SourceValue) : Type 0 where
  pub rows : ℕ
  pub cols : ℕ
  pub len_is : rows * cols ≡ len
  pub all : All (IsSource rows cols) xs

-- what all blocks of a contraction have in common: the word of the legs of both tensors, the places of the goal and of the legs that stay open, and those legs
pub record IsFrame (ks ls : List LegValue) (shared : List (ℕ × ℕ)) (word : List LegValue) (goal places : List ℕ) (left : List LegValue) : Type 0 where
  pub coupling : IsCoupling (ks ++ ls) (couples_of (length ks) shared)
  pub first : All (λ p. p.0 < length ks) shared
  pub second : All (λ p. p.1 < length ls) shared
  pub word_is : word ≡ ks ++ ls
  pub goal_is : goal ≡ goal_places (ks ++ ls) (couples_of (length ks) shared)
  pub places_is : places ≡ open_places (couples_of (length ks) shared) (length (ks ++ ls))
  pub count : length places ≡ length left
  pub few_left : length left ≤ 64
  pub few_shared : length shared ≤ 64

-- a tuple of the legs, with a block that is small enough
abbrev pub IsReadable : List LegValue → BlockValue → Type 0
IsReadable ls b = IsTuple ls b.tuple × (block_size ls b.tuple ≤ 4194304)

-- the first entry of a block whose sum of magnitudes is above 2^127 - 1 is this one
pub record IsFirstAbove (xs : List SourceValue) (len o : ℕ) : Type 0 where
  pub inside : o < len
  pub above : limit < size_sum xs o
  pub before : (j : ℕ) → j < o → size_sum xs j ≤ limit

-- the first entry of a block whose sum of magnitudes is above 2^127 - 1
abbrev pub IsPassing : List SourceValue → List ℕ → ℕ → StepFault → Type 0
IsPassing xs t len (Passed at offset) = (at ≡ t) × (offset < len) × (limit < size_sum xs offset) × ((j : ℕ) → j < offset → size_sum xs j ≤ limit)
IsPassing xs t len Memory = Unit {0}
