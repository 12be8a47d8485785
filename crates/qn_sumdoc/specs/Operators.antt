-- An operator of a site of one's own in a document: its form, its first fault, and what it stands for.
-- Source: Fishman, White and Stoudenmire 2022.
use Rattle.std.specs.Prelude.{◌≡◌, ℕ, ◌+◌, ◌-◌, ◌*◌, ◌/◌, ◌%◌, ℤ, pos, List, [], ◌∷◌, length, map, Bool, not, ◌&&◌, ◌||◌, ◌==◌, nat_lt, nat_le, if◌then◌else◌, Option, Some, None, option_map, is_some, is_none, bytes_eq, codes}
use Rattle.std.specs.List.{flat_map}
use Rattle.std.specs.Cmp.Lexicographic.{pointwise}
use Rattle.std.specs.Ordering.{int_eq}
use Rattle.serde_json.specs.Data.{Data}
use Rattle.serde_json.specs.Find.{get}
use Rattle.qn_gauss.specs.Gaussian.{Gaussian, mag}
use Rattle.qn_charge.specs.declared.factor.Factor.{Factor}
use Rattle.qn_index.specs.Legs.{SectorValue, LegValue, total}
use Rattle.qn_sites.specs.Operators.{carried}
use Rattle.qn_sites.specs.Sites.{GivenOp, identity_name}
use Rattle.qn_sites.specs.Refusals.{IsClean}
use Rattle.qn_parts.specs.declared.fault.Fault.{Fault}
use Rattle.qn_parts.specs.Faults.{fault, fault_if, first_of, ◌then◌}
use Rattle.qn_json.specs.Forms.{has, is_list}
use Rattle.qn_json.specs.Tree.{items, member_of}
use Rattle.qn_parts.specs.Sectors.{is_charge, charge_of, first_out}
use Rattle.qn_json.specs.Entries.{entry_of, are_entries}
use Rattle.qn_parts.specs.Tensors.{entry_or_zero}
use Rattle.qn_sumdoc.specs.Objects.{Named}

-- ---- the form

-- {"charge":charge,"table":[[entry,..],..]}
unfoldable pub is_operator : ℕ → Data → Bool
is_operator n d = has (is_charge n) (get (codes "charge") d) && has (is_list are_entries) (get (codes "table") d)

-- ---- what it stands for

-- the rows of the table
abbrev pub rows_data : Data → List Data
rows_data d = items (member_of (codes "table") d)

-- the entries of rows, row after row
abbrev pub entries_data : List Data → List Data
entries_data rows = flat_map items rows

-- the operator that is meant
abbrev pub given_of : List Factor → Named → GivenOp
given_of fs m = record {
  name = m.0;
  charge = charge_of fs (member_of (codes "charge") m.1);
  entries = map entry_or_zero (entries_data (rows_data m.1));
}

-- ---- its first fault

-- the first row, from place k on, that hasn't dim entries, where there should be rows up to place dim: a missing row hasn't them
abbrev pub first_other_row : ℕ → ℕ → List Data → Option ℕ
first_other_row dim k [] = if nat_le k dim then Some k else None
first_other_row dim k (r ∷ rs) = if nat_lt dim k || not (length (items r) == dim) then Some k else first_other_row dim (k + 1) rs

-- F18 of an operator on a site: its table hasn't dim rows of dim entries
abbrev pub rows_fault : ℕ → ℕ → ℕ → List Data → Option Fault
rows_fault dim site op rows = option_map (λ i. fault 18 site op i) (first_other_row dim 1 rows)

-- F19 of the entry at place i, row after row
abbrev pub entry_fault : ℕ → ℕ → ℕ → Data → Option Fault
entry_fault site op i d = fault_if (is_none (entry_of d)) (fault 19 site op i)

-- a charge has a U(1) part outside -10^7 to 10^7 or a Z_n part outside 0 to n - 1, or the name is that of the identity
abbrev pub has_bad_head : List Factor → GivenOp → Bool
has_bad_head fs g = bytes_eq g.name identity_name || is_some (first_out (pos 10000000) fs g.charge)

-- the k-th entry, row after row, is not 0 and does not carry the charge
abbrev pub is_off_charge : List Factor → List SectorValue → List ℤ → ℕ → Gaussian → Bool
is_off_charge fs ps q k z = not (mag z == 0) && not (pointwise int_eq (carried fs ps (k / total ps) (k % total ps)) q)

-- F32 of the entry at place i
abbrev pub off_charge_fault : List Factor → List SectorValue → List ℤ → ℕ → ℕ → ℕ → Gaussian → Option Fault
off_charge_fault fs ps q site op i z = fault_if (is_off_charge fs ps q (i - 1) z) (fault 32 site op i)

-- F32: first the charge and the name, then the entries
unfoldable pub charge_fault : List Factor → LegValue → ℕ → ℕ → GivenOp → Option Fault
charge_fault fs l site op g =
    fault_if (has_bad_head fs g) (fault 32 site op 0)
    then first_of (off_charge_fault fs l.sectors g.charge site op) g.entries

-- F18, then F19, of a table that should have dim rows of dim entries
abbrev pub table_fault : ℕ → ℕ → ℕ → List Data → Option Fault
table_fault dim site op rows = rows_fault dim site op rows then first_of (entry_fault site op) (entries_data rows)

-- F18, F19 and F32 of the operator at place `op` on a site
unfoldable pub operator_fault : List Factor → LegValue → ℕ → ℕ → Named → Option Fault
operator_fault fs l site op m = table_fault (total l.sectors) site op (rows_data m.1) then charge_fault fs l site op (given_of fs m)

-- the operator that is meant, with nothing at fault on a site with this leg
pub record IsOperatorOf (fs : List Factor) (l : LegValue) (m : Named) (g : GivenOp) : Type 0 where
  pub is : g ≡ given_of fs m
  pub full : length g.entries ≡ total l.sectors * total l.sectors
  pub clean : IsClean fs l g
