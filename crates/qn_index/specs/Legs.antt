-- Legs of tensors: an arrow and an ordered list of sectors, each a charge and a dimension.
-- Source: Singh, Pfeifer and Vidal 2010; directed indices as in Fishman, White and Stoudenmire 2022.
use Rattle.std.specs.Prelude.{ℕ, ℤ, ◌+◌, ◌-◌, ◌^◌, ◌≤◌, ◌<◌, ◌≡◌, ◌≢◌, List, [], ◌∷◌, length, if◌then◌else◌, slice_index_or, take, nat_lt, suc, All, Bool, Option, Some, None}
use Rattle.qn_charge.specs.declared.factor.Factor.{Factor}
use Rattle.qn_charge.specs.Charges.{parity, IsCanonical, IsWithin}
use Rattle.qn_index.specs.declared.leg.Clash.{Clash}
use Rattle.qn_index.specs.declared.leg.Clash.TheVariants.{Arrow, Sectors}
use Rattle.qn_index.specs.declared.leg.Dir.{Dir}
use Rattle.qn_index.specs.declared.leg.Dir.TheVariants.{Out, In}

-- a sector: a charge, and how many values have it
pub record SectorValue : Type 0 where
  pub charge : List ℤ
  pub dim : ℕ

-- a leg: its arrow and its sectors
pub record LegValue : Type 0 where
  pub arrow : Dir
  pub sectors : List SectorValue

-- the number of values of all sectors
abbrev pub total : List SectorValue → ℕ
total [] = 0
total (p ∷ ps) = p.dim + total ps

-- the number of values in the first n sectors
abbrev pub before : List SectorValue → ℕ → ℕ
before ps n = total (take n ps)

abbrev pub no_sector : SectorValue
no_sector = record { charge = []; dim = 0 }

-- the i-th sector, from 0
abbrev pub sector_at : List SectorValue → ℕ → SectorValue
sector_at ps i = slice_index_or ps i no_sector

-- the number of the sector of a value: values run from 0 on, sector after sector
abbrev pub sector_of : List SectorValue → ℕ → ℕ
sector_of [] v = 0
sector_of (p ∷ ps) v = if nat_lt v p.dim then 0 else suc (sector_of ps (v - p.dim))

-- the offset of a value in its sector
abbrev pub offset_in : List SectorValue → ℕ → ℕ
offset_in [] v = v
offset_in (p ∷ ps) v = if nat_lt v p.dim then v else offset_in ps (v - p.dim)

-- a value has the charge of its sector
abbrev pub charge_at : List SectorValue → ℕ → List ℤ
charge_at ps v = (sector_at ps (sector_of ps v)).charge

-- a value is odd where the charge of its sector is
abbrev pub parity_at : List Factor → List SectorValue → ℕ → Bool
parity_at fs ps v = parity fs (charge_at ps v)

-- a sector has from 1 to 65,536 values
abbrev pub HasDim : SectorValue → Type 0
HasDim p = (0 < p.dim) × (p.dim ≤ 65536)

-- the sectors of a leg: from 1 to 64, with at most 2^20 values in all
pub record IsLeg (ps : List SectorValue) : Type 0 where
  pub some : 0 < length ps
  pub few : length ps ≤ 64
  pub dims : All HasDim ps
  pub bound : total ps ≤ 2 ^ 20

-- what holds of each leg
abbrev pub IsSound : LegValue → Type 0
IsSound l = IsLeg l.sectors

-- a sector's charge is of this group, with U(1) parts of size at most 10^9
pub record IsOf (fs : List Factor) (p : SectorValue) : Type 0 where
  pub canonical : IsCanonical fs p.charge
  pub within : IsWithin 1000000000 fs p.charge

-- the charges of a leg are of this group
abbrev pub IsLegOf : List Factor → LegValue → Type 0
IsLegOf fs l = All (IsOf fs) l.sectors

-- the other arrow
abbrev pub other_way : Dir → Dir
other_way Out = In
other_way In = Out

-- the leg with the other arrow
abbrev pub flipped : LegValue → LegValue
flipped l = record { arrow = other_way l.arrow; sectors = l.sectors }

-- two legs meet where their arrows are opposite and their sectors are equal; else what keeps them from it
abbrev pub Meets : LegValue → LegValue → Option Clash → Type 0
Meets a b None = (a.arrow ≢ b.arrow) × (a.sectors ≡ b.sectors)
Meets a b (Some Arrow) = a.arrow ≡ b.arrow
Meets a b (Some Sectors) = (a.arrow ≢ b.arrow) × (a.sectors ≢ b.sectors)
