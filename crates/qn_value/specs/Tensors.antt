-- Tensors that conserve charge: by their legs, their flux and their entries, and by their blocks.
-- Singh, Pfeifer and Vidal 2010; Fishman, White and Stoudenmire 2022.
use Rattle.std.specs.Prelude.{◌≡◌, ◌≤◌, ◌<◌, ℕ, ◌+◌, ◌==◌, ℤ, Bool, true, false, ◌&&◌, cond, List, [], ◌∷◌, length, slice_index_or}
use Rattle.std.specs.List.{All, flat_map}
use Rattle.qn_gauss.specs.Gaussian.{Gaussian, zero_g}
use Rattle.qn_charge.specs.declared.factor.Factor.{Factor}
use Rattle.qn_charge.specs.Charges.{IsGroup, IsCanonical}
use Rattle.qn_index.specs.Legs.{LegValue}
use Rattle.qn_index.specs.Tuples.{net, IsTuple}
use Rattle.qn_index.specs.Legs.{IsSound, IsLegOf}
use Rattle.std.specs.Cmp.Lexicographic.{slice_cmp}
use Rattle.std.specs.Ordering.{nat_cmp}
use Rattle.std.specs.declared.cmp.Ordering.TheVariants.{Less}
use Rattle.qn_index.specs.Places.{IsValues, sectors_at, values_at, offset_at, block_size}

-- a row: a value for each leg, and the entry there
pub record Row : Type 0 where
  pub values : List ℕ
  pub entry : Gaussian

-- a block: a sector for each leg, and the entries at the values in these sectors, the last leg fastest
pub record BlockValue : Type 0 where
  pub tuple : List ℕ
  pub entries : List Gaussian

abbrev pub no_block : BlockValue
no_block = record { tuple = []; entries = [] }

-- a tensor: the group of its charges, its legs, its flux, and its rows; where there is no row the entry is 0
pub record TensorValue : Type 0 where
  pub group : List Factor
  pub legs : List LegValue
  pub flux : List ℤ
  pub rows : List Row

abbrev pub same_values : List ℕ → List ℕ → Bool
same_values [] [] = true
same_values [] (y ∷ ys) = false
same_values (x ∷ xs) [] = false
same_values (x ∷ xs) (y ∷ ys) = (x == y) && same_values xs ys

-- the entry of the first row with these values, and 0 where there is none
abbrev pub entry_at : List Row → List ℕ → Gaussian
entry_at [] xs = zero_g
entry_at (r ∷ rs) xs = cond (same_values r.values xs) r.entry (entry_at rs xs)

-- the entry of the tensor at a value for each leg
abbrev pub entry_of : TensorValue → List ℕ → Gaussian
entry_of t xs = entry_at t.rows xs

-- no row has these values
abbrev pub IsNew : Row → List Row → Type 0
IsNew r [] = Unit {0}
IsNew r (s ∷ ss) = (same_values s.values r.values ≡ false) × IsNew r ss

-- no two rows have the same values
abbrev pub AreDistinct : List Row → Type 0
AreDistinct [] = Unit {0}
AreDistinct (r ∷ rs) = IsNew r rs × AreDistinct rs

-- values in range, the charges of the Out legs minus those of the In legs being the flux
pub record IsRow (fs : List Factor) (ls : List LegValue) (q : List ℤ) (r : Row) : Type 0 where
  pub range : IsValues ls r.values
  pub flux : net fs ls (sectors_at ls r.values) ≡ q

-- what each tensor is: its charges are of its group, each row conserves charge, and no two rows have the same values
pub record IsTensor (t : TensorValue) : Type 0 where
  pub group : IsGroup t.group
  pub legs : All IsSound t.legs
  pub charges : All (IsLegOf t.group) t.legs
  pub flux : IsCanonical t.group t.flux
  pub rows : All (IsRow t.group t.legs t.flux) t.rows
  pub distinct : AreDistinct t.rows

-- the rows of a block's entries from offset o on
abbrev pub rows_from : List LegValue → List ℕ → ℕ → List Gaussian → List Row
rows_from ls t o [] = []
rows_from ls t o (e ∷ es) = record { values = values_at ls t o; entry = e } ∷ rows_from ls t (o + 1) es

-- the rows of the blocks, one after another
abbrev pub rows_of : List LegValue → List BlockValue → List Row
rows_of ls bs = flat_map (λ b. rows_from ls b.tuple 0 b.entries) bs

-- the entry in the block of the values' sectors, and 0 where there is none
abbrev pub entry_in : List LegValue → List BlockValue → List ℕ → Gaussian
entry_in ls [] xs = zero_g
entry_in ls (b ∷ bs) xs = cond (same_values b.tuple (sectors_at ls xs)) (slice_index_or b.entries (offset_at ls xs) zero_g) (entry_in ls bs xs)

-- a block of these legs: its tuple meets the flux, it has all its entries, and they are at most 2^22
pub record IsBlock (fs : List Factor) (ls : List LegValue) (q : List ℤ) (b : BlockValue) : Type 0 where
  pub tuple : IsTuple ls b.tuple
  pub flux : net fs ls b.tuple ≡ q
  pub full : length b.entries ≡ block_size ls b.tuple
  pub small : block_size ls b.tuple ≤ 4194304

-- the tuples ascend, compared leg by leg from the first
abbrev pub AreAscending : List BlockValue → Type 0
AreAscending bs =
    (i j : ℕ) → i < j → j < length bs →
    slice_cmp nat_cmp (slice_index_or bs i no_block).tuple (slice_index_or bs j no_block).tuple ≡ Less
