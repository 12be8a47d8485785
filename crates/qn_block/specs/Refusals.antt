-- Why legs, a flux and blocks are no tensor, in the order in which it is looked for.
use Rattle.std.specs.Prelude.{ℕ, zero, suc, ℤ, ◌-◌, ◌^◌, ◌≤◌, ◌<◌, ◌≡◌, ◌≢◌, List, [], ◌∷◌, length, slice_index_or}
use Rattle.std.specs.Cmp.Lexicographic.{slice_cmp}
use Rattle.std.specs.Ordering.{nat_cmp}
use Rattle.std.specs.declared.cmp.Ordering.TheVariants.{Less}
use Rattle.qn_charge.specs.declared.factor.Factor.{Factor}
use Rattle.qn_charge.specs.Firsts.{IsFirst, HasNone}
use Rattle.qn_index.specs.Legs.{LegValue}
use Rattle.qn_index.specs.Tuples.{net, count, IsTuple}
use Rattle.qn_index.specs.Places.{block_size}
use Rattle.qn_index.specs.Extents.{entries, IsWithinLimits}
use Rattle.qn_value.specs.Tensors.{BlockValue, no_block}
use Rattle.qn_block.specs.declared.fault.BlockFault.{BlockFault}
use Rattle.qn_block.specs.declared.fault.BlockFault.TheVariants.{TooManyLegs, TooManyTuples, TooManyEntries, Arity, BlockRange, OffFlux, NotAscending, DataLen, Memory}

-- the i-th block
abbrev pub block_at : List BlockValue → ℕ → BlockValue
block_at bs i = slice_index_or bs i no_block

-- the j-th number is no sector of the j-th leg
abbrev pub IsNoSector : List LegValue → List ℕ → ℕ → Type 0
IsNoSector [] t j = ⊥
IsNoSector (l ∷ ls) [] j = ⊥
IsNoSector (l ∷ ls) (s ∷ ss) zero = length l.sectors ≤ s
IsNoSector (l ∷ ls) (s ∷ ss) (suc j) = IsNoSector ls ss j

-- the i-th block's tuple is no tuple of these legs
abbrev pub BadTupleAt : List LegValue → List BlockValue → ℕ → Type 0
BadTupleAt ls bs i = (i < length bs) × (IsTuple ls (block_at bs i).tuple → ⊥)

-- the i-th block's tuple does not meet the flux
abbrev pub OffFluxAt : List Factor → List LegValue → List ℤ → List BlockValue → ℕ → Type 0
OffFluxAt fs ls q bs i = (i < length bs) × (net fs ls (block_at bs i).tuple ≢ q)

-- the i-th block's tuple is not above that of the block before it, compared leg by leg
abbrev pub NotAscendingAt : List BlockValue → ℕ → Type 0
NotAscendingAt bs i = (0 < i) × (i < length bs) × (slice_cmp nat_cmp (block_at bs (i - 1)).tuple (block_at bs i).tuple ≢ Less)

-- the i-th block has not as many entries as its tuple asks for
abbrev pub BadLengthAt : List LegValue → List BlockValue → ℕ → Type 0
BadLengthAt ls bs i = (i < length bs) × (length (block_at bs i).entries ≢ block_size ls (block_at bs i).tuple)

-- the first block whose tuple is no tuple of these legs: for its length, or for its first number that is no sector
abbrev pub IsTupleFault : List LegValue → List BlockValue → BlockFault → Type 0
IsTupleFault ls bs TooManyLegs = ⊥
IsTupleFault ls bs TooManyTuples = ⊥
IsTupleFault ls bs TooManyEntries = ⊥
IsTupleFault ls bs (Arity i) = IsFirst (BadTupleAt ls bs) i × (length (block_at bs i).tuple ≢ length ls)
IsTupleFault ls bs (BlockRange i j) = IsFirst (BadTupleAt ls bs) i × (length (block_at bs i).tuple ≡ length ls) × IsFirst (IsNoSector ls (block_at bs i).tuple) j
IsTupleFault ls bs (OffFlux i) = ⊥
IsTupleFault ls bs (NotAscending i) = ⊥
IsTupleFault ls bs (DataLen i) = ⊥
IsTupleFault ls bs Memory = ⊥

-- the fault of a shape: legs come before tuples, and tuples before entries
abbrev pub IsShapeFault : List Factor → List LegValue → List ℤ → BlockFault → Type 0
IsShapeFault fs ls q TooManyLegs = 64 < length ls
IsShapeFault fs ls q TooManyTuples = (length ls ≤ 64) × (2 ^ 20 < count ls)
IsShapeFault fs ls q TooManyEntries = (length ls ≤ 64) × (count ls ≤ 2 ^ 20) × (2 ^ 22 < entries fs ls q)
IsShapeFault fs ls q (Arity i) = ⊥
IsShapeFault fs ls q (BlockRange i j) = ⊥
IsShapeFault fs ls q (OffFlux i) = ⊥
IsShapeFault fs ls q (NotAscending i) = ⊥
IsShapeFault fs ls q (DataLen i) = ⊥
IsShapeFault fs ls q Memory = Unit {0}

-- the first fault of legs, a flux and blocks: the shape comes before the blocks; the tuples of all blocks come before
-- the flux of any, the flux before the order, and the order before the numbers of entries
abbrev pub IsBlockFault : List Factor → List LegValue → List ℤ → List BlockValue → BlockFault → Type 0
IsBlockFault fs ls q bs TooManyLegs = IsShapeFault fs ls q TooManyLegs
IsBlockFault fs ls q bs TooManyTuples = IsShapeFault fs ls q TooManyTuples
IsBlockFault fs ls q bs TooManyEntries = IsShapeFault fs ls q TooManyEntries
IsBlockFault fs ls q bs (Arity i) = IsWithinLimits fs ls q × IsTupleFault ls bs (Arity i)
IsBlockFault fs ls q bs (BlockRange i j) = IsWithinLimits fs ls q × IsTupleFault ls bs (BlockRange i j)
IsBlockFault fs ls q bs (OffFlux i) =
    IsWithinLimits fs ls q × HasNone (BadTupleAt ls bs) × IsFirst (OffFluxAt fs ls q bs) i
IsBlockFault fs ls q bs (NotAscending i) =
    IsWithinLimits fs ls q × HasNone (BadTupleAt ls bs) × HasNone (OffFluxAt fs ls q bs) × IsFirst (NotAscendingAt bs) i
IsBlockFault fs ls q bs (DataLen i) =
    IsWithinLimits fs ls q × HasNone (BadTupleAt ls bs) × HasNone (OffFluxAt fs ls q bs) × HasNone (NotAscendingAt bs) × IsFirst (BadLengthAt ls bs) i
IsBlockFault fs ls q bs Memory = Unit {0}
