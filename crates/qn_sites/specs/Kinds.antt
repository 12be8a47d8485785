-- The kinds of sites that are built in: their groups, the charges of their values, and their operators.
-- Source: spin 1/2, spinless fermions and electrons as in Fishman, White and Stoudenmire 2022; the signs by the order of Jordan and Wigner,
-- where the value `both` of an electron is the creation of up applied to the creation of down, applied to the empty value.
use Rattle.std.specs.Prelude.{◌≡◌, ◌≢◌, ◌<◌, ◌≤◌, slice_index_or, ◌*◌, ◌/◌, ◌%◌, ◌==◌, ◌&&◌, ℕ, ℤ, pos, negsuc, List, [], ◌∷◌, length, map, true, false, if◌then◌else◌, codes}
use Rattle.qn_gauss.specs.Gaussian.{Gaussian, zero_g}
use Rattle.qn_charge.specs.declared.factor.Factor.{Factor}
use Rattle.qn_charge.specs.declared.factor.Factor.TheVariants.{U1}
use Rattle.qn_charge.specs.Charges.{IsCanonical, IsGroup, IsWithin, neg_charge, sum_charge}
use Rattle.qn_index.specs.declared.leg.Dir.TheVariants.{Out}
use Rattle.qn_index.specs.Legs.{LegValue, SectorValue}
use Rattle.std.specs.List.{All, range_with_len}
use Rattle.qn_sites.specs.Sites.{AreAscending, GivenOp, SiteValue, identity_name, site_with}

-- an entry other than 0: the column's value goes to the row's value with this factor
pub record EntryRow : Type 0 where
  pub row : ℕ
  pub column : ℕ
  pub value : ℤ

-- an operator of a kind
pub record OpRow : Type 0 where
  pub name : List ℕ
  pub charge : List ℤ
  pub entries : List EntryRow

-- a kind: its name, its group, the charges of its values, and its operators but the identity, ascending by name
pub record KindRow : Type 0 where
  pub name : List ℕ
  pub factors : List Factor
  pub charges : List (List ℤ)
  pub ops : List OpRow

abbrev pub entry : ℕ → ℕ → ℤ → EntryRow
entry row column value = record { row = row; column = column; value = value }

-- an entry from its row, its column and its value
abbrev pub entry_of : ℕ × ℕ × ℤ → EntryRow
entry_of e = entry e.0 e.1 e.2

-- spin 1/2: value 0 is up, 1 is down
abbrev pub spin_half : KindRow
spin_half = record {
  name = codes "spin_half";
  factors = U1 false ∷ [];
  charges = (pos 1 ∷ []) ∷ (negsuc 0 ∷ []) ∷ [];
  ops =
      record { name = codes "Sm"; charge = negsuc 1 ∷ []; entries = entry 1 0 (pos 1) ∷ [] }
      ∷ record { name = codes "Sp"; charge = pos 2 ∷ []; entries = entry 0 1 (pos 1) ∷ [] }
      ∷ record { name = codes "Z"; charge = pos 0 ∷ []; entries = entry 0 0 (pos 1) ∷ entry 1 1 (negsuc 0) ∷ [] }
      ∷ [];
}

-- a fermion: value 0 is empty, 1 is full
abbrev pub fermion : KindRow
fermion = record {
  name = codes "fermion";
  factors = U1 true ∷ [];
  charges = (pos 0 ∷ []) ∷ (pos 1 ∷ []) ∷ [];
  ops =
      record { name = codes "C"; charge = negsuc 0 ∷ []; entries = entry 0 1 (pos 1) ∷ [] }
      ∷ record { name = codes "Cdag"; charge = pos 1 ∷ []; entries = entry 1 0 (pos 1) ∷ [] }
      ∷ record { name = codes "N"; charge = pos 0 ∷ []; entries = entry 1 1 (pos 1) ∷ [] }
      ∷ [];
}

-- an electron: value 0 is empty, 1 is up, 2 is down, 3 is both. The parts of a charge are the number of electrons and twice the spin
abbrev pub electron : KindRow
electron = record {
  name = codes "electron";
  factors = U1 true ∷ U1 false ∷ [];
  charges = (pos 0 ∷ pos 0 ∷ []) ∷ (pos 1 ∷ pos 1 ∷ []) ∷ (pos 1 ∷ negsuc 0 ∷ []) ∷ (pos 2 ∷ pos 0 ∷ []) ∷ [];
  ops =
      record { name = codes "Cdagdn"; charge = pos 1 ∷ negsuc 0 ∷ []; entries = entry 2 0 (pos 1) ∷ entry 3 1 (negsuc 0) ∷ [] }
      ∷ record { name = codes "Cdagup"; charge = pos 1 ∷ pos 1 ∷ []; entries = entry 1 0 (pos 1) ∷ entry 3 2 (pos 1) ∷ [] }
      ∷ record { name = codes "Cdn"; charge = negsuc 0 ∷ pos 1 ∷ []; entries = entry 0 2 (pos 1) ∷ entry 1 3 (negsuc 0) ∷ [] }
      ∷ record { name = codes "Cup"; charge = negsuc 0 ∷ negsuc 0 ∷ []; entries = entry 0 1 (pos 1) ∷ entry 2 3 (pos 1) ∷ [] }
      ∷ record { name = codes "Ndn"; charge = pos 0 ∷ pos 0 ∷ []; entries = entry 2 2 (pos 1) ∷ entry 3 3 (pos 1) ∷ [] }
      ∷ record { name = codes "Nup"; charge = pos 0 ∷ pos 0 ∷ []; entries = entry 1 1 (pos 1) ∷ entry 3 3 (pos 1) ∷ [] }
      ∷ [];
}

-- the kinds that are built in
abbrev pub kinds : List KindRow
kinds = spin_half ∷ fermion ∷ electron ∷ []

-- the entry of a table at a row and a column
abbrev pub value_at : List EntryRow → ℕ → ℕ → Gaussian
value_at [] row column = zero_g
value_at (e ∷ es) row column = if e.row == row && e.column == column then record { re = e.value; im = pos 0 } else value_at es row column

-- a table with all its entries, row after row
abbrev pub filled : ℕ → List EntryRow → List Gaussian
filled dim es = map (λ k. value_at es (k / dim) (k % dim)) (range_with_len 0 (dim * dim))

-- the leg of a kind: a sector of dimension 1 for each value
abbrev pub kind_leg : KindRow → LegValue
kind_leg k = record { arrow = Out; sectors = map (λ c. record { charge = c; dim = 1 }) k.charges }

-- an operator of a kind with all its entries
abbrev pub kind_op : ℕ → OpRow → GivenOp
kind_op dim o = record { name = o.name; charge = o.charge; entries = filled dim o.entries }

-- the site of a kind
abbrev pub kind_site : KindRow → SiteValue
kind_site k = site_with k.factors (kind_leg k) (map (kind_op (length k.charges)) k.ops)

-- an entry carries the charge, as those of an operator of the kind do
abbrev pub AllCarry : List Factor → List (List ℤ) → List ℤ → List EntryRow → Type 0
AllCarry fs cs q [] = Unit {0}
AllCarry fs cs q (e ∷ es) = (sum_charge fs (slice_index_or cs e.row []) (neg_charge fs (slice_index_or cs e.column [])) ≡ q) × AllCarry fs cs q es

-- an operator of a kind: a name other than that of the identity, a charge of the kind's group, and entries that carry it
pub record IsKindOp (k : KindRow) (o : OpRow) : Type 0 where
  pub named : o.name ≢ identity_name
  pub canonical : IsCanonical k.factors o.charge
  pub within : IsWithin 10000000 k.factors o.charge
  pub carry : AllCarry k.factors k.charges o.charge o.entries

-- what holds of each kind: a group, some values with charges of it, and operators ascending by name
pub record IsKind (k : KindRow) : Type 0 where
  pub group : IsGroup k.factors
  pub some : 0 < length k.charges
  pub few : length k.charges ≤ 64
  pub charges : All (λ q. IsCanonical k.factors q × IsWithin 1000000000 k.factors q) k.charges
  pub count : length k.ops ≤ 64
  pub ascending : AreAscending (map (λ (o : OpRow). o.name) k.ops)
  pub ops : All (IsKindOp k) k.ops
