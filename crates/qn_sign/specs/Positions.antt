-- Words whose things are called by their positions: the thing at position i of the word is i.
use Rattle.std.specs.Prelude.{◌≡◌, ◌==◌, ◌<◌, ℕ, Bool, false, List, length, slice_index_or, All}
use Rattle.std.specs.List.{range_with_len}
use Rattle.qn_sign.specs.Sign.{IsDistinct}

-- a word of n things, each called by its position: 0, 1, .., n - 1
abbrev pub positions : ℕ → List ℕ
positions n = range_with_len 0 n

-- the thing at a position is odd
abbrev pub is_odd_at : List Bool → ℕ → Bool
is_odd_at odd i = slice_index_or odd i false

-- each of the n positions stands in the list once
pub record IsOrder (n : ℕ) (order : List ℕ) : Type 0 where
  pub count : length order ≡ n
  pub within : All (λ k. k < n) order
  pub distinct : IsDistinct ◌==◌ order
