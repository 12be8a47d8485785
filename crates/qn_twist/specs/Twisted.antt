-- Tensors times -1 where an odd number of some of their legs have odd values.
-- The parity of super vector spaces, acting on some of the legs; twisted lines are this project's own.
use Rattle.std.specs.Prelude.{◌≡◌, ℕ, Bool, false, List, [], ◌∷◌, map, slice_index_or}
use Rattle.qn_sign.specs.Sign.{xor}
use Rattle.qn_gauss.specs.Gaussian.{signed}
use Rattle.qn_charge.specs.declared.factor.Factor.{Factor}
use Rattle.qn_charge.specs.Charges.{parity}
use Rattle.qn_index.specs.Legs.{LegValue, sector_at, parity_at}
use Rattle.qn_index.specs.Places.{IsValues}
use Rattle.qn_value.specs.Tensors.{BlockValue, TensorValue, entry_of}
use Rattle.qn_value.specs.Local.{no_leg}
use Rattle.qn_block.specs.Blocked.{BlockedValue}

abbrev pub leg_at : List LegValue → ℕ → LegValue
leg_at ls k = slice_index_or ls k no_leg

-- whether an odd number of the legs at these places have odd sectors in the tuple
abbrev pub odd_sectors : List Factor → List LegValue → List ℕ → List ℕ → Bool
odd_sectors fs ls [] t = false
odd_sectors fs ls (k ∷ ks) t = xor (parity fs (sector_at (leg_at ls k).sectors (slice_index_or t k 0)).charge) (odd_sectors fs ls ks t)

-- whether an odd number of the legs at these places have odd values
abbrev pub odd_values : List Factor → List LegValue → List ℕ → List ℕ → Bool
odd_values fs ls [] xs = false
odd_values fs ls (k ∷ ks) xs = xor (parity_at fs (leg_at ls k).sectors (slice_index_or xs k 0)) (odd_values fs ls ks xs)

-- the block, negated where an odd number of these legs have odd sectors
abbrev pub twisted_block : List Factor → List LegValue → List ℕ → BlockValue → BlockValue
twisted_block fs ls places b = record { tuple = b.tuple; entries = map (signed (odd_sectors fs ls places b.tuple)) b.entries }

-- the tensor, twisted block by block
abbrev pub twisted : BlockedValue → List ℕ → BlockedValue
twisted t places = record { group = t.group; legs = t.legs; flux = t.flux; blocks = map (twisted_block t.group t.legs places) t.blocks }

-- r is t times -1 where an odd number of the legs at these places have odd values
pub record Twisted (t : TensorValue) (places : List ℕ) (r : TensorValue) : Type 0 where
  pub group : r.group ≡ t.group
  pub legs : r.legs ≡ t.legs
  pub flux : r.flux ≡ t.flux
  pub entries : (xs : List ℕ) → IsValues r.legs xs → entry_of r xs ≡ signed (odd_values t.group t.legs places xs) (entry_of t xs)
