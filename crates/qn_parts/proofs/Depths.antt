-- The text of a tensor nests to a fixed depth.
use Rattle.std.proofs.Common.{ℕ, ◌≤◌, List, [], ◌∷◌, map, filter, arith}
use Rattle.serde_json.specs.Data.{Data, depth, items_depth}
use Rattle.serde_json.specs.View.{items_of}
use Rattle.serde_json.specs.Read.{max_depth}
use Rattle.qn_charge.specs.declared.factor.Factor.{Factor}
use Rattle.qn_charge.specs.declared.factor.Factor.TheVariants.{U1, Zn}
use Rattle.qn_index.specs.Legs.{SectorValue, LegValue}
use Rattle.qn_value.specs.Tensors.{BlockValue}
use Rattle.qn_block.specs.Blocked.{BlockedValue, is_filled}
use Rattle.qn_json.specs.Texts.{entry_data, whole_data, count_data}
use Rattle.qn_parts.specs.TensorTexts.{factor_data, sector_data, leg_data, block_data, tensor_data}

-- a list is as deep as what it holds
pub deep : {A : Type 0} (f : A → Data) (k : ℕ) → ((x : A) → depth (f x) ≤ k) → (xs : List A) → items_depth (items_of (map f xs)) ≤ k
deep f k h [] = omega arith
deep f k h (x ∷ xs) = omega (arith, h x, deep f k h xs)

pub factor : (f : Factor) → depth (factor_data f) ≤ 1
factor (U1 fermion) = omega arith
factor (Zn n fermion) = omega arith

pub sector : (s : SectorValue) → depth (sector_data s) ≤ 2
sector s = omega (arith, deep whole_data 0 (λ z. omega arith) s.charge)

pub leg : (l : LegValue) → depth (leg_data l) ≤ 4
leg l = omega (arith, deep sector_data 2 sector l.sectors)

pub block : (b : BlockValue) → depth (block_data b) ≤ 3
block b = omega (arith, deep count_data 0 (λ n. omega arith) b.tuple, deep entry_data 1 (λ z. omega arith) b.entries)

pub shallow : (t : BlockedValue) → depth (tensor_data t) ≤ max_depth
shallow t =
    omega (arith, deep block_data 3 block (filter is_filled t.blocks), deep whole_data 0 (λ z. omega arith) t.flux, deep factor_data 1 factor t.group, deep leg_data 4 leg t.legs)
