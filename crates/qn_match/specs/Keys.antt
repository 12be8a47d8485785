-- The sectors of the shared legs as one number: digits in mixed radix, the first digit counting least.
-- Source: Knuth, The Art of Computer Programming, volume 2, section 4.1.
use Rattle.std.specs.Prelude.{◌≡◌, ◌<◌, ◌+◌, ◌*◌, ◌==◌, ℕ, cond, List, [], ◌∷◌, length, map, slice_index_or}
use Rattle.std.specs.List.{sum_by}
use Rattle.qn_index.specs.Legs.{LegValue}
use Rattle.qn_value.specs.Local.{no_leg}

-- how many sectors the shared legs have, in the order of the pairs
abbrev pub bases_of : List (ℕ × ℕ) → List LegValue → List ℕ
bases_of shared ks = map (λ p. length (slice_index_or ks p.0 no_leg).sectors) shared

-- the sectors of the legs at these places
abbrev pub digits_of : List ℕ → List ℕ → List ℕ
digits_of places t = map (λ k. slice_index_or t k 0) places

-- each digit is below its base
abbrev pub AreDigits : List ℕ → List ℕ → Type 0
AreDigits [] xs = xs ≡ []
AreDigits (n ∷ ns) [] = ⊥
AreDigits (n ∷ ns) (x ∷ xs) = (x < n) × AreDigits ns xs

-- how many numbers can be written with these bases
abbrev pub numbers : List ℕ → ℕ
numbers [] = 1
numbers (n ∷ ns) = n * numbers ns

-- the number with these digits
abbrev pub number : List ℕ → List ℕ → ℕ
number [] xs = 0
number (n ∷ ns) [] = 0
number (n ∷ ns) (x ∷ xs) = x + n * number ns xs

-- for each key below n, the sum of the sizes of the tuples that have it
pub record AreSums (key size : List ℕ → ℕ) (n : ℕ) (us : List (List ℕ)) (sums : List ℕ) : Type 0 where
  pub count : length sums ≡ n
  pub each : (k : ℕ) → k < n → slice_index_or sums k 0 ≡ sum_by (λ u. cond (key u == k) (size u) 0) us
