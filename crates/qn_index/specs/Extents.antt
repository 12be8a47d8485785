-- How wide a shape is: the number of its tuples of sectors, and of its admissible entries.
use Rattle.std.specs.Prelude.{ℕ, ℤ, ◌+◌, ◌^◌, ◌≤◌, ◌<◌, ◌⊎◌, List, [], ◌∷◌, length, min}
use Rattle.qn_charge.specs.declared.factor.Factor.{Factor}
use Rattle.qn_index.specs.Legs.{LegValue}
use Rattle.qn_index.specs.Tuples.{count, admitted}
use Rattle.qn_index.specs.Places.{block_size}

-- the number of entries of the blocks of these tuples
abbrev pub size_of : List LegValue → List (List ℕ) → ℕ
size_of ls [] = 0
size_of ls (t ∷ ts) = block_size ls t + size_of ls ts

-- the number of admissible entries: those of the blocks of all admissible tuples
abbrev pub entries : List Factor → List LegValue → List ℤ → ℕ
entries fs ls q = size_of ls (admitted fs ls q)

-- a number, or the bound and one more where it is above the bound
abbrev pub capped : ℕ → ℕ → ℕ
capped bound n = min n (bound + 1)

-- a shape within the limits: at most 64 legs, 2^20 tuples and 2^22 admissible entries
pub record IsWithinLimits (fs : List Factor) (ls : List LegValue) (q : List ℤ) : Type 0 where
  pub legs : length ls ≤ 64
  pub tuples : count ls ≤ 2 ^ 20
  pub entries : entries fs ls q ≤ 2 ^ 22

-- a shape past one of the limits
abbrev pub IsTooWide : List Factor → List LegValue → List ℤ → Type 0
IsTooWide fs ls q = (64 < length ls) ⊎ (2 ^ 20 < count ls) ⊎ (2 ^ 22 < entries fs ls q)
