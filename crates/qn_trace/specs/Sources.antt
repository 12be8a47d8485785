-- A trace block by block, by the strides of the blocks.
-- Fishman, White and Stoudenmire 2022.
use Rattle.std.specs.Prelude.{◌≡◌, ◌≢◌, ◌==◌, ◌≤◌, ◌<◌, ℕ, Bool, true, false, ◌&&◌, cond, Option, Some, None, List, [], ◌∷◌, length, slice_index_or}
use Rattle.std.specs.Cmp.Lexicographic.{slice_cmp}
use Rattle.std.specs.List.{All, sum_by}
use Rattle.std.specs.Ordering.{nat_cmp}
use Rattle.std.specs.declared.cmp.Ordering.TheVariants.{Less}
use Rattle.qn_sign.specs.Positions.{positions, is_odd_at}
use Rattle.qn_sign.specs.Sign.{exchange_sign}
use Rattle.qn_gauss.specs.Gaussian.{Gaussian, zero_g, mag, limit, signed}
use Rattle.qn_index.specs.Tuples.{IsTuple}
use Rattle.qn_block.specs.declared.step.StepFault.{StepFault}
use Rattle.qn_block.specs.declared.step.StepFault.TheVariants.{Passed, Memory}
use Rattle.qn_charge.specs.declared.factor.Factor.{Factor}
use Rattle.qn_index.specs.Legs.{LegValue}
use Rattle.qn_index.specs.Places.{block_size}
use Rattle.qn_value.specs.Tensors.{BlockValue, same_values}
use Rattle.qn_value.specs.Local.{picked}
use Rattle.qn_value.specs.Rows.{sum_over}
use Rattle.qn_strides.specs.Strides.{open_places, goal_places, couples_meet, sector_parities, strides, SummedValue, KeptValue, summed_axes, kept_axes, start_of, sum_along, total_along, IsSummed, IsKept}

-- a block that counts for a block of the result: its entries, its sign, and how they are gone through
pub record SourceValue : Type 0 where
  pub entries : List Gaussian
  pub minus : Bool
  pub kept : List KeptValue
  pub summed : List SummedValue

-- the block's couples meet, and its open legs have the sectors of the result's tuple
abbrev pub fits : List (ℕ × ℕ) → List ℕ → List ℕ → BlockValue → Bool
fits cs ss places b = couples_meet cs b.tuple && same_values ss (picked 0 b.tuple places)

abbrev pub source_of : List Factor → List LegValue → List (ℕ × ℕ) → List LegValue → List ℕ → BlockValue → SourceValue
source_of fs ls cs rs ss b = record {
  entries = b.entries;
  minus = exchange_sign ◌==◌ (is_odd_at (sector_parities fs ls b.tuple)) (positions (length ls)) (goal_places ls cs);
  kept = kept_axes (strides ls b.tuple) rs ss (open_places cs (length ls));
  summed = summed_axes ls b.tuple cs;
}

-- the blocks that count for the result's block at a tuple
abbrev pub sources : List Factor → List LegValue → List (ℕ × ℕ) → List LegValue → List ℕ → List BlockValue → List SourceValue
sources fs ls cs rs ss [] = []
sources fs ls cs rs ss (b ∷ bs) =
    cond (fits cs ss (open_places cs (length ls)) b) (source_of fs ls cs rs ss b ∷ sources fs ls cs rs ss bs) (sources fs ls cs rs ss bs)

-- what a block adds to the n-th entry of the result's block
abbrev pub source_term : ℕ → SourceValue → Gaussian
source_term n x = signed x.minus (sum_along (λ p. slice_index_or x.entries p zero_g) x.summed (start_of x.kept n))

abbrev pub source_size : ℕ → SourceValue → ℕ
source_size n x = total_along (λ p. mag (slice_index_or x.entries p zero_g)) x.summed (start_of x.kept n)

-- the n-th entry of the result's block
abbrev pub entry_sum : List SourceValue → ℕ → Gaussian
entry_sum xs n = sum_over xs (source_term n)

-- the sum of magnitudes there
abbrev pub size_sum : List SourceValue → ℕ → ℕ
size_sum xs n = sum_by (source_size n) xs

-- few legs, with numbers small enough to be gone through in 64 bits
pub record IsSource (x : SourceValue) : Type 0 where
  pub few_kept : length x.kept ≤ 64
  pub few_summed : length x.summed ≤ 64
  pub kept : All IsKept x.kept
  pub summed : All IsSummed x.summed

-- a tuple of the legs, with a block that is small enough
abbrev pub HasBlock : List LegValue → List ℕ → Type 0
HasBlock ls t = IsTuple ls t × (block_size ls t ≤ 4194304)

abbrev pub IsReadable : List LegValue → BlockValue → Type 0
IsReadable ls b = HasBlock ls b.tuple

-- one tuple is below another
abbrev pub IsBelow : List ℕ → List ℕ → Type 0
IsBelow t u = slice_cmp nat_cmp t u ≡ Less

-- the number of the tuple of the result for which a block counts, or there is none
abbrev pub IsNumberOf : List (ℕ × ℕ) → List ℕ → List (List ℕ) → BlockValue → Option ℕ → Type 0
IsNumberOf cs places ts b None = (k : ℕ) → k < length ts → fits cs (slice_index_or ts k []) places b ≡ false
IsNumberOf cs places ts b (Some n) = (n < length ts) × (fits cs (slice_index_or ts n []) places b ≡ true) × ((k : ℕ) → k < length ts → k ≢ n → fits cs (slice_index_or ts k []) places b ≡ false)

-- the first entry of a block whose sum of magnitudes is above 2^127 - 1
abbrev pub IsPassing : List SourceValue → List ℕ → ℕ → StepFault → Type 0
IsPassing xs t len (Passed at offset) = (at ≡ t) × (offset < len) × (limit < size_sum xs offset) × ((j : ℕ) → j < offset → size_sum xs j ≤ limit)
IsPassing xs t len Memory = Unit {0}
