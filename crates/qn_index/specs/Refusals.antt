-- Why a list of sectors is no leg.
use Rattle.std.specs.Prelude.{ℕ, ◌+◌, ◌^◌, ◌<◌, ◌≡◌, List, length, ◌⊎◌}
use Rattle.qn_charge.specs.declared.factor.Factor.{Factor}
use Rattle.qn_charge.specs.Firsts.{IsFirst, HasNone, OutOfRange}
use Rattle.qn_index.specs.declared.leg.LegFault.{LegFault}
use Rattle.qn_index.specs.declared.leg.LegFault.TheVariants.{ChargeRange, DimRange, NoSector, TooManySectors}
use Rattle.qn_index.specs.Legs.{SectorValue, before, sector_at}

-- some part of the i-th sector's charge is out of range
abbrev pub BadCharge : List Factor → List SectorValue → ℕ → Type 0
BadCharge fs ps i = (i < length ps) × ((j : ℕ) × OutOfRange 1000000000 fs (sector_at ps i).charge j)

-- the i-th sector's dimension is out of range, or the total passes 2^20 there
abbrev pub BadDim : List SectorValue → ℕ → Type 0
BadDim ps i = (i < length ps) × (((sector_at ps i).dim ≡ 0) ⊎ (65536 < (sector_at ps i).dim) ⊎ (2 ^ 20 < before ps (i + 1)))

-- charges come before dimensions, dimensions before the number of sectors, and each names the first sector
abbrev pub IsFirstLegFault : List Factor → List SectorValue → LegFault → Type 0
IsFirstLegFault fs ps (ChargeRange i) = IsFirst (BadCharge fs ps) i
IsFirstLegFault fs ps (DimRange i) = HasNone (BadCharge fs ps) × IsFirst (BadDim ps) i
IsFirstLegFault fs ps NoSector = HasNone (BadCharge fs ps) × HasNone (BadDim ps) × (length ps ≡ 0)
IsFirstLegFault fs ps TooManySectors = HasNone (BadCharge fs ps) × HasNone (BadDim ps) × (64 < length ps)
