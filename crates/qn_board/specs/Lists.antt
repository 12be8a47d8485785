-- How often a number stands in a list, and the least number of a list.
use Rattle.std.specs.Prelude.{ℕ, ◌+◌, ◌-◌, ◌^◌, ◌<◌, ◌≤◌, ◌≡◌, List, [], ◌∷◌, cond, nat_lt, ◌==◌, min}

-- how often x stands in the list
abbrev pub occurrences : ℕ → List ℕ → ℕ
occurrences x [] = 0
occurrences x (y ∷ ys) = cond (y == x) 1 0 + occurrences x ys

-- x stands in the list
abbrev pub IsIn : ℕ → List ℕ → Type 0
IsIn x xs = 0 < occurrences x xs

-- 1 for a number below n, and 0 for any other
abbrev pub once_below : ℕ → ℕ → ℕ
once_below x n = cond (nat_lt x n) 1 0

-- the list has the numbers below n, each once, and no others
abbrev pub IsEachBelow : ℕ → List ℕ → Type 0
IsEachBelow n xs = (x : ℕ) → occurrences x xs ≡ once_below x n

-- x is the least number of the list
pub record IsLeast (xs : List ℕ) (x : ℕ) : Type 0 where
  pub member : IsIn x xs
  pub below : (y : ℕ) → IsIn y xs → x ≤ y

-- the greatest u64
abbrev pub greatest : ℕ
greatest = 2 ^ 64 - 1

-- the least number of the list, or the greatest u64 where the list is empty
abbrev pub least_of : List ℕ → ℕ
least_of [] = greatest
least_of (x ∷ xs) = min x (least_of xs)
