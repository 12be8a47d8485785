-- What reading takes of a source.
use Rattle.std.specs.Prelude.{◌≡◌, ◌≤◌, ℕ, List, ◌++◌, length, Option}
use Rattle.std.specs.Io.KnownBytes.{Consumes, IsAtEnd}

-- exactly n bytes were taken
abbrev pub Took : Option (List ℕ) → Option (List ℕ) → ℕ → Type 0
Took left_old left_new n = (came : List ℕ) × Consumes left_old left_new came × (length came ≡ n)

-- at most n bytes were taken
abbrev pub TookAtMost : Option (List ℕ) → Option (List ℕ) → ℕ → Type 0
TookAtMost left_old left_new n = (came : List ℕ) × Consumes left_old left_new came × (length came ≤ n)

-- n bytes came and stand behind the old ones; none only at the end
pub record ReadsMore (left_old left_new : Option (List ℕ)) (old new : List ℕ) (n : ℕ) : Type 0 where
  pub came : List ℕ
  pub count : length came ≡ n
  pub behind : new ≡ old ++ came
  pub consumed : Consumes left_old left_new came
  pub end : n ≡ 0 → IsAtEnd left_new
