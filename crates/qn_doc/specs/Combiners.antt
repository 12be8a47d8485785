-- A combiner in a document: its form, its first fault, and what it stands for.
-- Source: Singh, Pfeifer and Vidal 2010; combiners as in Fishman, White and Stoudenmire 2022.
use Rattle.std.specs.Prelude.{◌≤◌, ℕ, ◌^◌, ℤ, pos, int_le, int_lt, unsigned_abs, List, [], ◌∷◌, length, Bool, true, false, not, ◌&&◌, ◌||◌, ◌==◌, nat_lt, nat_le, Option, codes}
use Rattle.std.specs.List.{list_all}
use Rattle.serde_json.specs.Data.{Data}
use Rattle.serde_json.specs.Find.{get}
use Rattle.qn_charge.specs.declared.factor.Factor.{Factor}
use Rattle.qn_charge.specs.declared.factor.Factor.TheVariants.{U1, Zn}
use Rattle.qn_charge.specs.Charges.{zero_charge}
use Rattle.qn_index.specs.Legs.{SectorValue, LegValue, total}
use Rattle.qn_index.specs.Extents.{IsWithinLimits}
use Rattle.qn_block.specs.Combiners.{CombinerValue, fused_sectors}
use Rattle.qn_block.specs.Tables.{fuse_legs, split_legs}
use Rattle.qn_parts.specs.declared.fault.Fault.{Fault}
use Rattle.qn_parts.specs.Faults.{fault, fault_if, first_of, ◌then◌}
use Rattle.qn_json.specs.Forms.{has, is_word}
use Rattle.qn_parts.specs.Tensors.{is_arrow, are_legs, arrow_of, legs_data, legs_of, leg_fault, width_fault}

-- which of its two tables stands in the network
abbrev pub is_mode : Data → Bool
is_mode d = is_word (codes "fuse") d || is_word (codes "split") d

-- {"dir":"out" or "in","legs":[leg,..],"mode":"fuse" or "split"}
unfoldable pub is_combiner : ℕ → Data → Bool
is_combiner n d = has is_arrow (get (codes "dir") d) && (has (are_legs n) (get (codes "legs") d) && has is_mode (get (codes "mode") d))

abbrev pub is_split : Data → Bool
is_split d = has (is_word (codes "split")) (get (codes "mode") d)

-- the combiner that is meant
abbrev pub combiner_of : List Factor → Data → CombinerValue
combiner_of fs d = record { group = fs; legs = legs_of fs d; arrow = arrow_of d }

-- a part of a charge is from -10^9 to 10^9 for U(1), and from 0 to n - 1 for Z_n
abbrev pub is_part_in : Factor → ℤ → Bool
is_part_in (U1 fermion) z = nat_le (unsigned_abs z) 1000000000
is_part_in (Zn n fermion) z = int_le (pos 0) z && int_lt z (pos n)

-- a charge has such a part for each factor
abbrev pub is_charge_in : List Factor → List ℤ → Bool
is_charge_in [] [] = true
is_charge_in [] (z ∷ zs) = false
is_charge_in (f ∷ fs) [] = false
is_charge_in (f ∷ fs) (z ∷ zs) = is_part_in f z && is_charge_in fs zs

abbrev pub is_sector_in : List Factor → SectorValue → Bool
is_sector_in fs p = (nat_lt 0 p.dim && nat_le p.dim 65536) && is_charge_in fs p.charge

-- the limits of a leg: 1 to 64 sectors, each with a charge in range and 1 to 65,536 values, and at most 2^20 values
unfoldable pub are_leg_sectors : List Factor → List SectorValue → Bool
are_leg_sectors fs ps = (nat_lt 0 (length ps) && nat_le (length ps) 64) && (nat_le (total ps) (2 ^ 20) && list_all (is_sector_in fs) ps)

-- the fused leg keeps the limits of a leg
unfoldable pub has_fused_leg : CombinerValue → Bool
has_fused_leg c = are_leg_sectors c.group (fused_sectors c.group c.legs c.arrow)

-- the legs of the table that stands in the network
abbrev pub table_legs : Bool → CombinerValue → List LegValue
table_legs true c = split_legs c.group c.legs c.arrow
table_legs false c = fuse_legs c.group c.legs c.arrow

-- F11 of the fused leg, then F13 and F14 of the table
abbrev pub table_fault : ℕ → Bool → CombinerValue → Option Fault
table_fault tensor split c =
    fault_if (not (has_fused_leg c)) (fault 11 tensor 0 0)
    then width_fault c.group tensor (table_legs split c) (zero_charge c.group)

-- leg by leg F9, F10, F11; then the faults of the table
abbrev pub fused_fault : List Factor → ℕ → Data → Option Fault
fused_fault fs tensor d = first_of (leg_fault fs tensor) (legs_data d) then table_fault tensor (is_split d) (combiner_of fs d)

-- F8: no leg or more than 31; then the faults of the legs and of the table
abbrev pub combiner_fault : List Factor → ℕ → Data → Option Fault
combiner_fault fs tensor d =
    fault_if (length (legs_data d) == 0 || nat_lt 31 (length (legs_data d))) (fault 8 tensor 0 0) then fused_fault fs tensor d

-- what holds of each combiner in a document without a fault: at most 31 legs, and a table that is not too wide
pub record IsTable (split : Bool) (c : CombinerValue) : Type 0 where
  pub few : length c.legs ≤ 31
  pub shape : IsWithinLimits c.group (table_legs split c) (zero_charge c.group)
