-- Labels of an order that were met so far.
use Rattle.std.specs.Prelude.{◌≡◌, ◌<◌, ◌≤◌, ℕ, ℤ, pos, Bool, true, false, List, length, slice_index_or, ◌↔◌}
use Rattle.std.specs.List.{Contains}

-- for each number up to 1,024, whether it is a label of the order so far
pub record IsSeen (order : List ℤ) (seen : List Bool) : Type 0 where
  pub size : length seen ≡ 1025
  pub met : (n : ℕ) → 0 < n → n ≤ 1024 → (slice_index_or seen n false ≡ true) ↔ Contains order (pos n)
