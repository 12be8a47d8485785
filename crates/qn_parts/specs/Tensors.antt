-- A tensor in a document: its form, its first fault, and what it stands for.
-- Source: Singh, Pfeifer and Vidal 2010; the first fault is a function of the tree.
use Rattle.std.specs.Prelude.{◌≤◌, ℕ, ◌+◌, ◌^◌, ℤ, pos, int_lt, unsigned_abs, List, [], ◌∷◌, length, Bool, not, ◌&&◌, ◌||◌, ◌==◌, nat_lt, nat_le, if◌then◌else◌, Option, Some, None, is_none, option_map, unwrap_or, map, codes}
use Rattle.std.specs.Cmp.Lexicographic.{slice_cmp}
use Rattle.std.specs.Ordering.{nat_cmp, is_lt}
use Rattle.serde_json.specs.Data.{Data}
use Rattle.serde_json.specs.Find.{get}
use Rattle.qn_gauss.specs.Gaussian.{Gaussian, zero_g}
use Rattle.qn_charge.specs.declared.factor.Factor.{Factor}
use Rattle.qn_charge.specs.Charges.{IsWithin}
use Rattle.qn_index.specs.declared.leg.Dir.{Dir}
use Rattle.qn_index.specs.declared.leg.Dir.TheVariants.{Out, In}
use Rattle.qn_index.specs.Legs.{LegValue}
use Rattle.qn_index.specs.Tuples.{count, admits}
use Rattle.qn_index.specs.Places.{block_size}
use Rattle.qn_index.specs.Extents.{entries}
use Rattle.qn_value.specs.Tensors.{BlockValue}
use Rattle.qn_block.specs.Blocked.{BlockedValue}
use Rattle.qn_block.specs.declared.fault.BlockFault.{BlockFault}
use Rattle.qn_block.specs.declared.fault.BlockFault.TheVariants.{TooManyLegs, TooManyTuples, TooManyEntries, Arity, BlockRange, OffFlux, NotAscending, DataLen, Memory}
use Rattle.qn_parts.specs.Faults.{fault, fault_if, first_of, first_bad, ◌then◌}
use Rattle.qn_json.specs.Forms.{has, are_numbers, is_list, is_pair, is_word}
use Rattle.qn_json.specs.Tree.{items, member_of}
use Rattle.qn_parts.specs.Sectors.{is_charge, is_sectors, number_of, charge_of, first_of_pair, second_of_pair, sector_of, sectors_fault, first_out}
use Rattle.qn_json.specs.Entries.{are_entries, entry_of}
use Rattle.qn_parts.specs.declared.fault.Fault.{Fault}

-- ---- the form

-- the arrow of a leg: "out" or "in"
abbrev pub is_arrow : Data → Bool
is_arrow d = is_word (codes "out") d || is_word (codes "in") d

-- {"dir":"out" or "in","sectors":[sector,..]}
unfoldable pub is_leg : ℕ → Data → Bool
is_leg n d = has is_arrow (get (codes "dir") d) && has (is_sectors n) (get (codes "sectors") d)

-- a list of legs
abbrev pub are_legs : ℕ → Data → Bool
are_legs n d = is_list (is_leg n) d

-- a block: its tuple and its data
unfoldable pub is_block : Data → Bool
is_block d = is_pair are_numbers are_entries d

-- a list of blocks
abbrev pub are_blocks : Data → Bool
are_blocks d = is_list is_block d

-- {"legs":[leg,..],"flux":flux,"blocks":[block,..]}, with n numbers in each charge and flux
unfoldable pub is_tensor : ℕ → Data → Bool
is_tensor n d =
    has (are_legs n) (get (codes "legs") d) && (has (is_charge n) (get (codes "flux") d) && has are_blocks (get (codes "blocks") d))

-- ---- what it stands for

abbrev pub arrow_of : Data → Dir
arrow_of d = if has (is_word (codes "in")) (get (codes "dir") d) then In else Out

-- the data of a leg's sectors
abbrev pub sectors_data : Data → List Data
sectors_data d = items (member_of (codes "sectors") d)

-- the leg that is meant
abbrev pub leg_of : List Factor → Data → LegValue
leg_of fs d = record { arrow = arrow_of d; sectors = map (sector_of fs) (sectors_data d) }

abbrev pub legs_data : Data → List Data
legs_data d = items (member_of (codes "legs") d)

abbrev pub legs_of : List Factor → Data → List LegValue
legs_of fs d = map (leg_of fs) (legs_data d)

abbrev pub flux_of : List Factor → Data → List ℤ
flux_of fs d = charge_of fs (member_of (codes "flux") d)

-- a number as the number of a sector; one that is negative or above 2^32 - 1 stands for 2^32 - 1, which is no sector of any leg
abbrev pub sector_number : ℤ → ℕ
sector_number z = if int_lt z (pos 0) || int_lt (pos 4294967295) z then 4294967295 else unsigned_abs z

abbrev pub tuple_of : List Data → List ℕ
tuple_of ds = map (λ d. sector_number (number_of d)) ds

-- the entry, and 0 where F19 holds of it
abbrev pub entry_or_zero : Data → Gaussian
entry_or_zero d = unwrap_or (entry_of d) zero_g

-- the data of a block's entries
abbrev pub entries_data : Data → List Data
entries_data d = items (second_of_pair (items d))

-- the block that is meant
abbrev pub block_of : Data → BlockValue
block_of d = record { tuple = tuple_of (items (first_of_pair (items d))); entries = map entry_or_zero (entries_data d) }

abbrev pub blocks_data : Data → List Data
blocks_data d = items (member_of (codes "blocks") d)

abbrev pub blocks_of : Data → List BlockValue
blocks_of d = map block_of (blocks_data d)

-- the tensor that is meant
abbrev pub tensor_of : List Factor → Data → BlockedValue
tensor_of fs d = record { group = fs; legs = legs_of fs d; flux = flux_of fs d; blocks = blocks_of d }

-- what holds of each tensor in a document without a fault: at most 32 legs, and a flux with U(1) parts of size at most 10^12
pub record IsOfDocument (t : BlockedValue) : Type 0 where
  pub few : length t.legs ≤ 32
  pub flux : IsWithin 1000000000000 t.group t.flux

-- ---- its first fault

-- F9, F10 and F11 of the leg at place k
abbrev pub leg_fault : List Factor → ℕ → ℕ → Data → Option Fault
leg_fault fs tensor k d = sectors_fault fs tensor k 1048576 (sectors_data d)

-- F12: a U(1) part of the flux is outside -10^12 to 10^12, or a Z_n part outside 0 to n - 1
abbrev pub flux_fault : List Factor → ℕ → List ℤ → Option Fault
flux_fault fs tensor q = option_map (λ i. fault 12 tensor 0 (i + 1)) (first_out (pos 1000000000000) fs q)

-- F13: more than 2^20 sector tuples; then F14: more than 2^22 admissible entries
abbrev pub width_fault : List Factor → ℕ → List LegValue → List ℤ → Option Fault
width_fault fs tensor ls q =
    fault_if (nat_lt (2 ^ 20) (count ls)) (fault 13 tensor 0 0)
    then fault_if (nat_lt (2 ^ 22) (entries fs ls q)) (fault 14 tensor 0 0)

-- the first leg, counted from j, whose number is no sector of it
abbrev pub no_sector_from : ℕ → List LegValue → List ℕ → Option ℕ
no_sector_from j [] t = None
no_sector_from j (l ∷ ls) [] = None
no_sector_from j (l ∷ ls) (s ∷ ss) = if nat_le (length l.sectors) s then Some j else no_sector_from (j + 1) ls ss

-- F15 of the block at place k: its tuple hasn't one number for each leg, or a number is no sector of its leg
abbrev pub tuple_fault : List LegValue → ℕ → ℕ → BlockValue → Option Fault
tuple_fault ls tensor k b =
    if length b.tuple == length ls then option_map (λ j. fault 15 tensor k j) (no_sector_from 1 ls b.tuple) else Some (fault 15 tensor k 0)

-- F17 of the blocks from place k on: a tuple isn't above the one before it
abbrev pub order_fault : ℕ → ℕ → List BlockValue → Option Fault
order_fault tensor k [] = None
order_fault tensor k (b ∷ []) = None
order_fault tensor k (b ∷ c ∷ bs) =
    if is_lt (slice_cmp nat_cmp b.tuple c.tuple) then order_fault tensor (k + 1) (c ∷ bs) else Some (fault 17 tensor (k + 1) 0)

-- F15, F16, F17, F18, each over all blocks before the next
abbrev pub blocks_fault : List Factor → ℕ → List LegValue → List ℤ → List BlockValue → Option Fault
blocks_fault fs tensor ls q bs =
    first_of (tuple_fault ls tensor) bs
    then first_bad (λ b. not (admits fs ls q b.tuple)) (λ k. fault 16 tensor k 0) bs
    then order_fault tensor 1 bs
    then first_bad (λ b. not (length b.entries == block_size ls b.tuple)) (λ k. fault 18 tensor k 0) bs

-- the place of what keeps legs, a flux and blocks from being a tensor
abbrev pub placed : ℕ → BlockFault → Option Fault
placed tensor TooManyLegs = Some (fault 8 tensor 0 0)
placed tensor TooManyTuples = Some (fault 13 tensor 0 0)
placed tensor TooManyEntries = Some (fault 14 tensor 0 0)
placed tensor (Arity i) = Some (fault 15 tensor (i + 1) 0)
placed tensor (BlockRange i j) = Some (fault 15 tensor (i + 1) (j + 1))
placed tensor (OffFlux i) = Some (fault 16 tensor (i + 1) 0)
placed tensor (NotAscending i) = Some (fault 17 tensor (i + 1) 0)
placed tensor (DataLen i) = Some (fault 18 tensor (i + 1) 0)
placed tensor Memory = None

-- F13, F14, then F15 to F18
abbrev pub made_fault : List Factor → ℕ → List LegValue → List ℤ → List BlockValue → Option Fault
made_fault fs tensor ls q bs = width_fault fs tensor ls q then blocks_fault fs tensor ls q bs

-- F19 of the block at place k
abbrev pub entry_fault : ℕ → ℕ → Data → Option Fault
entry_fault tensor k d = first_bad (λ x. is_none (entry_of x)) (λ i. fault 19 tensor k i) (entries_data d)

-- leg by leg F9, F10, F11; then F12 to F19, each over all blocks before the next code
abbrev pub parts_fault : List Factor → ℕ → Data → Option Fault
parts_fault fs tensor d =
    first_of (leg_fault fs tensor) (legs_data d)
    then flux_fault fs tensor (flux_of fs d)
    then made_fault fs tensor (legs_of fs d) (flux_of fs d) (blocks_of d)
    then first_of (entry_fault tensor) (blocks_data d)

-- F8, then the faults of the parts
abbrev pub tensor_fault : List Factor → ℕ → Data → Option Fault
tensor_fault fs tensor d = fault_if (nat_lt 32 (length (legs_data d))) (fault 8 tensor 0 0) then parts_fault fs tensor d
