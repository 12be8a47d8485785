-- How blocks move when legs are fused or parted: whole rows of entries.
use Rattle.std.specs.Prelude.{◌≡◌, ◌≤◌, ◌<◌, ◌⊎◌, ◌+◌, ◌*◌, ℕ, cond, true, List, [], ◌∷◌, ◌++◌, length, map, flat_map, drop, slice_index_or}
use Rattle.qn_gauss.specs.Gaussian.{Gaussian, zero_g}
use Rattle.qn_index.specs.Legs.{LegValue, before, sector_at}
use Rattle.qn_index.specs.Tuples.{upward, IsTuple}
use Rattle.qn_index.specs.Places.{block_size, values_at}
use Rattle.qn_value.specs.Tensors.{BlockValue, TensorValue, same_values, entry_of}
use Rattle.qn_block.specs.Blocked.{BlockedValue, MeetFlux, tensor_of}
use Rattle.qn_fuse.specs.Fused.{fused_at, split_at}
use Rattle.qn_block.specs.Combiners.{CombinerValue, StartValue, fused_sectors, fused_values, start_at, tuples_with, stands_at}

-- the entries of the block of a tuple, none where there is no block
abbrev pub entries_at : List BlockValue → List ℕ → List Gaussian
entries_at [] t = []
entries_at (b ∷ bs) t = cond (same_values b.tuple t) b.entries (entries_at bs t)

-- n entries from a place on; past the end they are 0
abbrev pub piece : List Gaussian → ℕ → ℕ → List Gaussian
piece es start n = map (λ o. slice_index_or es o zero_g) (upward start n)

-- a block whose rows of this length go into a fused block
pub record SourceValue : Type 0 where
  pub entries : List Gaussian
  pub len : ℕ

-- the block has so many rows, or there is none
pub record IsSource (rows : ℕ) (x : SourceValue) : Type 0 where
  pub small : rows * x.len ≤ 4194304
  pub long : (x.entries ≡ []) ⊎ (length x.entries ≡ rows * x.len)

-- the i-th rows of the blocks, one after the other
abbrev pub row : List SourceValue → ℕ → List Gaussian
row xs i = flat_map (λ x. piece x.entries (i * x.len) x.len) xs

-- the block in which the fused legs have these sectors, those before and behind them being given
abbrev pub source : BlockedValue → ℕ → List ℕ → List ℕ → List ℕ → SourceValue
source t first before behind s = record { entries = entries_at t.blocks (before ++ (s ++ behind)); len = block_size (drop first t.legs) (s ++ behind) }

-- the tuples of the combiner's legs in a sector of the fused leg
abbrev pub tuples_in : CombinerValue → ℕ → List (List ℕ)
tuples_in c w = tuples_with c.group c.legs c.arrow (sector_at (fused_sectors c.group c.legs c.arrow) w).charge

-- a tuple of a tensor's legs, whose block has at most 2^22 entries
pub record IsBlockAt (ls : List LegValue) (t : List ℕ) : Type 0 where
  pub tuple : IsTuple ls t
  pub small : block_size ls t ≤ 4194304

-- a number is the entry of the tensor at the values of the combiner's legs that match the value at the place of the fused leg
abbrev pub IsFusedEntry : CombinerValue → ℕ → TensorValue → List ℕ → Gaussian → Type 0
IsFusedEntry c first wide xs z =
    (ps us qs : List ℕ) (w : ℕ) → length ps ≡ first → stands_at (fused_values c.group c.legs c.arrow) w us ≡ true → xs ≡ ps ++ (w ∷ qs) →
    z ≡ entry_of wide (ps ++ (us ++ qs))

-- a number is the entry of the tensor at the value of the fused leg that matches the values at the places of the combiner's legs
abbrev pub IsSplitEntry : CombinerValue → ℕ → TensorValue → List ℕ → Gaussian → Type 0
IsSplitEntry c at narrow xs z =
    (ps us qs : List ℕ) (w : ℕ) → length ps ≡ at → stands_at (fused_values c.group c.legs c.arrow) w us ≡ true → xs ≡ ps ++ (us ++ qs) →
    z ≡ entry_of narrow (ps ++ (w ∷ qs))

-- in this sector of the fused leg, behind so many of its values, stand the values of a tuple of the combiner's legs
pub record IsPlace (c : CombinerValue) (t : List ℕ) (sector offset : ℕ) : Type 0 where
  pub there : sector < length (fused_sectors c.group c.legs c.arrow)
  pub within : offset + block_size c.legs t ≤ (sector_at (fused_sectors c.group c.legs c.arrow) sector).dim
  pub values : (o : ℕ) → o < block_size c.legs t →
      stands_at (fused_values c.group c.legs c.arrow) (before (fused_sectors c.group c.legs c.arrow) sector + (offset + o)) (values_at c.legs t o) ≡ true

-- so many of the tuples have values that begin before a value, and the others not
pub record IsCount (ss : List StartValue) (value n : ℕ) : Type 0 where
  pub within : n ≤ length ss
  pub below : (i : ℕ) → i < n → (start_at ss i).start < value
  pub above : (i : ℕ) → n ≤ i → i < length ss → value ≤ (start_at ss i).start

-- a tensor that is made of another by fusing, and one by splitting
pub record IsFusedOf (c : CombinerValue) (first : ℕ) (t r : BlockedValue) : Type 0 where
  pub group : r.group ≡ t.group
  pub legs : r.legs ≡ fused_at c first t.legs
  pub flux : r.flux ≡ t.flux
  pub entries : (xs : List ℕ) → MeetFlux r.group r.legs r.flux xs → IsFusedEntry c first (tensor_of t) xs (entry_of (tensor_of r) xs)

pub record IsSplitOf (c : CombinerValue) (at : ℕ) (t r : BlockedValue) : Type 0 where
  pub group : r.group ≡ t.group
  pub legs : r.legs ≡ split_at c at t.legs
  pub flux : r.flux ≡ t.flux
  pub entries : (xs : List ℕ) → MeetFlux r.group r.legs r.flux xs → IsSplitEntry c at (tensor_of t) xs (entry_of (tensor_of r) xs)
