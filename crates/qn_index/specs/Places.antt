-- Places in the block of a tuple of sectors: entries are row-major, the last leg fastest.
use Rattle.std.specs.Prelude.{ℕ, ◌+◌, ◌*◌, ◌/◌, ◌%◌, ◌<◌, ◌≡◌, List, [], ◌∷◌}
use Rattle.qn_index.specs.Legs.{LegValue, sector_at, before, total, sector_of, offset_in}

-- the number of entries of a tuple's block
abbrev pub block_size : List LegValue → List ℕ → ℕ
block_size [] t = 1
block_size (l ∷ ls) [] = 1
block_size (l ∷ ls) (s ∷ ss) = (sector_at l.sectors s).dim * block_size ls ss

-- one offset for each leg, within the sector that the tuple names
abbrev pub IsInner : List LegValue → List ℕ → List ℕ → Type 0
IsInner [] t os = os ≡ []
IsInner (l ∷ ls) [] os = ⊥
IsInner (l ∷ ls) (s ∷ ss) [] = ⊥
IsInner (l ∷ ls) (s ∷ ss) (o ∷ os) = (o < (sector_at l.sectors s).dim) × IsInner ls ss os

-- the offset in the tuple's block of offsets in its sectors
abbrev pub offset_of : List LegValue → List ℕ → List ℕ → ℕ
offset_of [] t os = 0
offset_of (l ∷ ls) [] os = 0
offset_of (l ∷ ls) (s ∷ ss) [] = 0
offset_of (l ∷ ls) (s ∷ ss) (o ∷ os) = o * block_size ls ss + offset_of ls ss os

-- the offsets in the sectors of an offset in the tuple's block
abbrev pub inner_of : List LegValue → List ℕ → ℕ → List ℕ
inner_of [] t n = []
inner_of (l ∷ ls) [] n = []
inner_of (l ∷ ls) (s ∷ ss) n = (n / block_size ls ss) ∷ inner_of ls ss (n % block_size ls ss)

-- one value for each leg
abbrev pub IsValues : List LegValue → List ℕ → Type 0
IsValues [] xs = xs ≡ []
IsValues (l ∷ ls) [] = ⊥
IsValues (l ∷ ls) (x ∷ xs) = (x < total l.sectors) × IsValues ls xs

-- the sectors of values
abbrev pub sectors_at : List LegValue → List ℕ → List ℕ
sectors_at [] xs = []
sectors_at (l ∷ ls) [] = []
sectors_at (l ∷ ls) (x ∷ xs) = sector_of l.sectors x ∷ sectors_at ls xs

-- the offset of values in the block of their sectors
abbrev pub offset_at : List LegValue → List ℕ → ℕ
offset_at [] xs = 0
offset_at (l ∷ ls) [] = 0
offset_at (l ∷ ls) (x ∷ xs) = offset_in l.sectors x * block_size ls (sectors_at ls xs) + offset_at ls xs

-- the values at an offset of a tuple's block
abbrev pub values_at : List LegValue → List ℕ → ℕ → List ℕ
values_at [] t n = []
values_at (l ∷ ls) [] n = []
values_at (l ∷ ls) (s ∷ ss) n = (before l.sectors s + n / block_size ls ss) ∷ values_at ls ss (n % block_size ls ss)
