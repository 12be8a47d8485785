-- Tensors held in blocks.
-- Source: Singh, Pfeifer and Vidal 2010; Fishman, White and Stoudenmire 2022.
use Rattle.std.specs.Prelude.{◌≡◌, ◌≢◌, ◌≤◌, ◌<◌, slice_index_or, length, ℕ, ℤ, List, [], ◌∷◌, map, reverse, Bool, not, ◌&&◌, pos}
use Rattle.std.specs.List.{All, list_any}
use Rattle.std.specs.Ordering.{int_eq}
use Rattle.qn_gauss.specs.Gaussian.{Gaussian, zero_g, conj_g}
use Rattle.qn_charge.specs.declared.factor.Factor.{Factor}
use Rattle.qn_charge.specs.Charges.{IsGroup, neg_charge}
use Rattle.qn_index.specs.Legs.{LegValue, offset_in, IsSound, IsLegOf, flipped}
use Rattle.qn_index.specs.Tuples.{net, IsTuple, IsFlux}
use Rattle.qn_index.specs.Places.{IsValues, IsInner, sectors_at, offset_of, block_size}
use Rattle.qn_index.specs.Extents.{IsWithinLimits}
use Rattle.qn_value.specs.Tensors.{BlockValue, no_block, TensorValue, IsBlock, AreAscending, rows_of, entry_of}

-- a tensor held in blocks: the group of its charges, its legs, its flux, and its blocks; where there is no block the entries are 0
pub record BlockedValue : Type 0 where
  pub group : List Factor
  pub legs : List LegValue
  pub flux : List ℤ
  pub blocks : List BlockValue

-- the tensor by its single entries
abbrev pub tensor_of : BlockedValue → TensorValue
tensor_of t = record { group = t.group; legs = t.legs; flux = t.flux; rows = rows_of t.legs t.blocks }

-- what holds of each tensor held in blocks: a shape within the limits, legs and a flux of its group, and only admissible blocks, each with all its entries, ascending
pub record IsBlocked (t : BlockedValue) : Type 0 where
  pub group : IsGroup t.group
  pub sound : All IsSound t.legs
  pub charges : All (IsLegOf t.group) t.legs
  pub flux : IsFlux t.group t.flux
  pub shape : IsWithinLimits t.group t.legs t.flux
  pub blocks : All (IsBlock t.group t.legs t.flux) t.blocks
  pub ascending : AreAscending t.blocks

-- a value for each leg, in range, at which the charges of the Out legs minus those of the In legs are the flux
pub record MeetFlux (fs : List Factor) (ls : List LegValue) (q : List ℤ) (xs : List ℕ) : Type 0 where
  pub range : IsValues ls xs
  pub flux : net fs ls (sectors_at ls xs) ≡ q

-- the offset of each leg's value in its sector
abbrev pub offsets_at : List LegValue → List ℕ → List ℕ
offsets_at [] xs = []
offsets_at (l ∷ ls) [] = []
offsets_at (l ∷ ls) (x ∷ xs) = offset_in l.sectors x ∷ offsets_at ls xs

-- whether a Gaussian integer is 0
abbrev pub is_zero : Gaussian → Bool
is_zero z = int_eq z.re (pos 0) && int_eq z.im (pos 0)

-- whether some entry of a block is not 0
abbrev pub is_filled : BlockValue → Bool
is_filled b = list_any (λ z. not (is_zero z)) b.entries

-- the legs of the conjugate: in reversed order, each with the other arrow
abbrev pub conjugate_legs : List LegValue → List LegValue
conjugate_legs ls = reverse (map flipped ls)

-- the conjugate: reversed and turned legs, the negated flux, and at reversed values the conjugated entry
pub record IsConjugate (t r : TensorValue) : Type 0 where
  pub group : r.group ≡ t.group
  pub legs : r.legs ≡ conjugate_legs t.legs
  pub flux : r.flux ≡ neg_charge t.group t.flux
  pub entries : (xs : List ℕ) → entry_of r (reverse xs) ≡ conj_g (entry_of t xs)

-- a tuple of the legs with all its entries, at most 2^22
pub record IsWhole (ls : List LegValue) (b : BlockValue) : Type 0 where
  pub tuple : IsTuple ls b.tuple
  pub full : length b.entries ≡ block_size ls b.tuple
  pub small : block_size ls b.tuple ≤ 4194304

-- the block of the conjugate: at the reversed tuple, with the conjugated entries at reversed offsets
pub record IsConjugateBlock (ls : List LegValue) (b c : BlockValue) : Type 0 where
  pub tuple : c.tuple ≡ reverse b.tuple
  pub full : length c.entries ≡ length b.entries
  pub entries : (os : List ℕ) → IsInner ls b.tuple os →
      slice_index_or c.entries (offset_of (conjugate_legs ls) (reverse b.tuple) (reverse os)) zero_g ≡ conj_g (slice_index_or b.entries (offset_of ls b.tuple os) zero_g)

-- no two blocks have the same tuple
abbrev pub AreDistinct : List BlockValue → Type 0
AreDistinct bs = (i j : ℕ) → i < j → j < length bs → (slice_index_or bs i no_block).tuple ≢ (slice_index_or bs j no_block).tuple
