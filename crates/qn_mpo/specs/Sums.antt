-- The sums of the transitions from not begun, as the program makes them: for each state right of the site a table, row after row.
use Rattle.std.specs.Prelude.{◌≡◌, ◌<◌, ◌+◌, ◌*◌, ℕ, Bool, cond, List, length, slice_index_or}
use Rattle.qn_gauss.specs.Gaussian.{Gaussian, zero_g, add_g, limit, mag}
use Rattle.qn_opsum.specs.Strings.{Sites, identity}
use Rattle.qn_auto.specs.Automaton.{Stage, Term, begun, same_stage, stage_at}
use Rattle.qn_auto.specs.Automaton.Stage.{not_begun}
use Rattle.qn_auto.specs.Building.{begun_size}
use Rattle.qn_mpo.specs.Sizes.{SumValue, size_with, with_product}

abbrev pub no_sum : SumValue
no_sum = record { value = zero_g; size = 0 }

-- the sum at a place
abbrev pub sum_at : List SumValue → ℕ → SumValue
sum_at ss k = slice_index_or ss k no_sum

-- where the sum of the transition to a state stands, by the state's number, the row and the column
abbrev pub place_in : ℕ → ℕ → ℕ → ℕ → ℕ
place_in d n x y = n * (d * d) + (x * d + y)

-- the sum of 1 where the state is not begun and row and column are the same, and else of nothing
abbrev pub first_value : Bool → ℕ → ℕ → SumValue
first_value waits x y = record { value = cond waits (identity x y) zero_g; size = cond waits (mag (identity x y)) 0 }

-- the sums before any term is added: the identity from not begun to not begun
pub record AreFirst (d : ℕ) (qs : List Stage) (ss : List SumValue) : Type 0 where
  pub count : length ss ≡ length qs * (d * d)
  pub sums : (n x y : ℕ) → n < length qs → x < d → y < d → sum_at ss (place_in d n x y) ≡ first_value (same_stage not_begun (stage_at qs n)) x y

-- the sums with a number times a table more, from a place on
pub record HaveTable (amount : Gaussian) (t : List Gaussian) (start : ℕ) (old new : List SumValue) : Type 0 where
  pub count : length new ≡ length old
  pub added : (k : ℕ) → k < length t → sum_at new (start + k) ≡ with_product (sum_at old (start + k)) amount (slice_index_or t k zero_g)
  pub before : (k : ℕ) → k < start → sum_at new k ≡ sum_at old k
  pub after : (k : ℕ) → sum_at new (start + length t + k) ≡ sum_at old (start + length t + k)

-- with a number times a table more one of the sums of magnitudes is above 2^127 - 1
pub record TablePasses (amount : Gaussian) (t : List Gaussian) (start : ℕ) (old : List SumValue) : Type 0 where
  pub place : ℕ
  pub within : place < length t
  pub above : limit < size_with (sum_at old (start + place)) amount (slice_index_or t place zero_g)

-- the sums with what a term adds
pub record HaveTerm (S : Sites) (j : ℕ) (qs : List Stage) (w : Term) (old new : List SumValue) : Type 0 where
  pub count : length new ≡ length old
  pub values : (n x y : ℕ) → n < length qs → x < S.dim j → y < S.dim j →
      (sum_at new (place_in (S.dim j) n x y)).value ≡ add_g (sum_at old (place_in (S.dim j) n x y)).value (begun S j (stage_at qs n) x y w)
  pub sizes : (n x y : ℕ) → n < length qs → x < S.dim j → y < S.dim j →
      (sum_at new (place_in (S.dim j) n x y)).size ≡ (sum_at old (place_in (S.dim j) n x y)).size + begun_size S j (stage_at qs n) x y w

-- with what a term adds one of the sums of magnitudes is above 2^127 - 1
pub record TermPasses (S : Sites) (j : ℕ) (qs : List Stage) (w : Term) (old : List SumValue) : Type 0 where
  pub right : ℕ
  pub row : ℕ
  pub column : ℕ
  pub stands : right < length qs
  pub in_rows : row < S.dim j
  pub in_columns : column < S.dim j
  pub above : limit < (sum_at old (place_in (S.dim j) right row column)).size + begun_size S j (stage_at qs right) row column w
