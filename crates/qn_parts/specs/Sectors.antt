-- The sectors of a leg in a document: their form, their first fault, and what they stand for.
-- Source: Singh, Pfeifer and Vidal 2010.
use Rattle.std.specs.Prelude.{ℕ, ◌+◌, ℤ, pos, neg_ℤ, int_lt, int_le, unsigned_abs, List, [], ◌∷◌, length, take, Bool, false, ◌&&◌, ◌||◌, ◌==◌, nat_lt, if◌then◌else◌, Option, Some, None, is_some, option_map, unwrap_or, slice_get}
use Rattle.std.specs.List.{list_all, position_from, zip}
use Rattle.serde_json.specs.Data.{Data, null}
use Rattle.qn_charge.specs.declared.factor.Factor.{Factor}
use Rattle.qn_charge.specs.declared.factor.Factor.TheVariants.{U1, Zn}
use Rattle.qn_index.specs.Legs.{SectorValue}
use Rattle.qn_parts.specs.Faults.{fault, fault_if, first_bad, ◌then◌}
use Rattle.qn_json.specs.Forms.{is_list, is_pair, is_whole}
use Rattle.qn_json.specs.Tree.{list_at, items, whole_of}
use Rattle.qn_parts.specs.declared.fault.Fault.{Fault}

-- n whole numbers
abbrev pub are_wholes : ℕ → List Data → Bool
are_wholes n ds = length ds == n && list_all is_whole ds

-- a charge or flux of n factors: a list of n whole numbers
abbrev pub is_charge : ℕ → Data → Bool
is_charge n d = unwrap_or (option_map (are_wholes n) (list_at d)) false

-- a sector: its charge and its dimension
abbrev pub is_sector : ℕ → Data → Bool
is_sector n d = is_pair (is_charge n) is_whole d

-- a list of sectors
abbrev pub is_sectors : ℕ → Data → Bool
is_sectors n d = is_list (is_sector n) d

-- the whole number, and 0 where it is none
abbrev pub number_of : Data → ℤ
number_of d = unwrap_or (whole_of d) (pos 0)

-- the i-th number of a list, from 0, and 0 where there are not as many
abbrev pub number_at : List Data → ℕ → ℤ
number_at ds i = unwrap_or (option_map number_of (slice_get ds i)) (pos 0)

-- the first n numbers of a list, for n up to 4
abbrev pub numbers : ℕ → List Data → List ℤ
numbers n ds = take n (number_at ds 0 ∷ number_at ds 1 ∷ number_at ds 2 ∷ number_at ds 3 ∷ [])

-- a charge has a number for each factor
abbrev pub charge_of : List Factor → Data → List ℤ
charge_of fs d = numbers (length fs) (items d)

abbrev pub first_of_pair : List Data → Data
first_of_pair [] = null
first_of_pair (x ∷ rest) = x

abbrev pub second_of_pair : List Data → Data
second_of_pair [] = null
second_of_pair (x ∷ []) = null
second_of_pair (x ∷ y ∷ rest) = y

-- the dimension of a sector
abbrev pub dim_of : Data → ℤ
dim_of d = number_of (second_of_pair (items d))

-- the sector that is meant
abbrev pub sector_of : List Factor → Data → SectorValue
sector_of fs d = record { charge = charge_of fs (first_of_pair (items d)); dim = unsigned_abs (dim_of d) }

-- a part of a charge is outside -bound to bound for U(1), outside 0 to n - 1 for Z_n
abbrev pub is_part_out : ℤ → Factor → ℤ → Bool
is_part_out bound (U1 fermion) z = int_lt z (neg_ℤ bound) || int_lt bound z
is_part_out bound (Zn n fermion) z = int_lt z (pos 0) || int_le (pos n) z

-- the first factor, from 0, whose part is out of range
abbrev pub first_out : ℤ → List Factor → List ℤ → Option ℕ
first_out bound fs xs = position_from (λ p. is_part_out bound p.0 p.1) 0 (zip fs xs)

-- some part of the sector's charge is out of range
abbrev pub has_charge_out : List Factor → Data → Bool
has_charge_out fs d = is_some (first_out (pos 1000000000) fs (sector_of fs d).charge)

-- the dimension is outside 1 to 65,536
abbrev pub has_dim_out : Data → Bool
has_dim_out d = int_lt (dim_of d) (pos 1) || int_lt (pos 65536) (dim_of d)

-- the dimension is outside 1 to 65,536, or brings the total past the most
abbrev pub is_dim_out : ℕ → ℕ → ℤ → Bool
is_dim_out most total z = int_lt z (pos 1) || int_lt (pos 65536) z || nat_lt most (total + unsigned_abs z)

-- F10 of the sectors from place k on, where the dimensions before add up to the total
abbrev pub dims_fault : ℕ → (ℕ → Fault) → ℕ → ℕ → List Data → Option Fault
dims_fault most at total k [] = None
dims_fault most at total k (d ∷ ds) =
    if is_dim_out most total (dim_of d) then Some (at k) else dims_fault most at (total + unsigned_abs (dim_of d)) (k + 1) ds

-- F9 over all sectors, then F10, then F11, at this tensor and part; the dimensions may add up to the most
abbrev pub sectors_fault : List Factor → ℕ → ℕ → ℕ → List Data → Option Fault
sectors_fault fs tensor part most ds =
    first_bad (has_charge_out fs) (λ k. fault 9 tensor part k) ds
    then dims_fault most (λ k. fault 10 tensor part k) 0 1 ds
    then fault_if (length ds == 0 || nat_lt 64 (length ds)) (fault 11 tensor part 0)
