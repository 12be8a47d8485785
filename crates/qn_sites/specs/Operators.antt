-- Operators on one site: a charge, and a square table of entries that carry it.
-- Source: Fishman, White and Stoudenmire 2022; Singh, Pfeifer and Vidal 2010.
use Rattle.std.specs.Prelude.{◌≡◌, ◌≢◌, ◌<◌, ◌≤◌, ◌+◌, ◌*◌, ◌&&◌, ℕ, ℤ, List, [], ◌∷◌, length, nat_lt, if◌then◌else◌, slice_index_or}
use Rattle.qn_gauss.specs.Gaussian.{Gaussian, zero_g}
use Rattle.qn_charge.specs.declared.factor.Factor.{Factor}
use Rattle.qn_charge.specs.Charges.{IsGroup, IsCanonical, IsWithin, sum_charge, neg_charge}
use Rattle.qn_index.specs.declared.leg.Dir.TheVariants.{Out}
use Rattle.qn_index.specs.Legs.{LegValue, SectorValue, IsLeg, IsLegOf, charge_at, total, flipped}

-- an operator: the group of its charges, the leg of its site, its name as bytes, its charge, and its entries, row after row
pub record OpValue : Type 0 where
  pub group : List Factor
  pub leg : LegValue
  pub name : List ℕ
  pub charge : List ℤ
  pub entries : List Gaussian

-- the charge that an entry carries: charge(row) - charge(column)
abbrev pub carried : List Factor → List SectorValue → ℕ → ℕ → List ℤ
carried fs ps row column = sum_charge fs (charge_at ps row) (neg_charge fs (charge_at ps column))

-- the entry at a row and a column, and 0 outside the table
abbrev pub element : OpValue → ℕ → ℕ → Gaussian
element o row column =
    if nat_lt row (total o.leg.sectors) && nat_lt column (total o.leg.sectors)
    then slice_index_or o.entries (row * total o.leg.sectors + column) zero_g
    else zero_g

-- the leg of a site: an Out leg of the group with at most 64 values
pub record IsSiteLeg (fs : List Factor) (l : LegValue) : Type 0 where
  pub sectors : IsLeg l.sectors
  pub charges : IsLegOf fs l
  pub out : l.arrow ≡ Out
  pub small : total l.sectors ≤ 64

-- an operator on a site: an entry other than 0 stands only where it carries the operator's charge
pub record IsOperator (o : OpValue) : Type 0 where
  pub group : IsGroup o.group
  pub leg : IsSiteLeg o.group o.leg
  pub canonical : IsCanonical o.group o.charge
  pub within : IsWithin 10000000 o.group o.charge
  pub full : length o.entries ≡ total o.leg.sectors * total o.leg.sectors
  pub conserves : (row column : ℕ) → carried o.group o.leg.sectors row column ≢ o.charge → element o row column ≡ zero_g

-- the legs of an operator as a tensor: the row's leg Out, then the column's leg In
abbrev pub op_legs : LegValue → List LegValue
op_legs l = l ∷ flipped l ∷ []

-- the row, the first of the two values
abbrev pub row_of : List ℕ → ℕ
row_of [] = 0
row_of (x ∷ xs) = x

-- the column, the second of the two values
abbrev pub column_of : List ℕ → ℕ
column_of [] = 0
column_of (x ∷ xs) = row_of xs
