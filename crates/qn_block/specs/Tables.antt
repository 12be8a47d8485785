-- The two tables of a combiner: the fuse table puts the fused leg in the place of the legs, the split table the legs in the place of the fused leg.
-- Source: Singh, Pfeifer and Vidal 2010; combiners as in Fishman, White and Stoudenmire 2022.
use Rattle.std.specs.Prelude.{◌≡◌, ◌&&◌, ℕ, ◌+◌, Bool, true, false, cond, List, [], ◌∷◌, ◌++◌, length, reverse}
use Rattle.qn_gauss.specs.Gaussian.{Gaussian, zero_g, one_g, signed}
use Rattle.qn_charge.specs.declared.factor.Factor.{Factor}
use Rattle.qn_charge.specs.Charges.{zero_charge, xor}
use Rattle.qn_index.specs.declared.leg.Dir.{Dir}
use Rattle.qn_index.specs.declared.leg.Dir.TheVariants.{Out, In}
use Rattle.qn_index.specs.Legs.{LegValue, flipped, parity_at, charge_at, total}
use Rattle.qn_index.specs.Places.{IsValues, sectors_at}
use Rattle.qn_value.specs.Tensors.{Row, TensorValue}
use Rattle.qn_block.specs.Blocked.{conjugate_legs}
use Rattle.qn_block.specs.Combiners.{CombinerValue, fused_charge, fused_leg, fused_sectors, fused_values, stands_at}

-- whether an arrow is In
abbrev pub is_inward : Dir → Bool
is_inward Out = false
is_inward In = true

-- whether an odd number of the In legs have odd values
abbrev pub odd_inward : List Factor → List LegValue → List ℕ → Bool
odd_inward fs [] vs = false
odd_inward fs (l ∷ ls) [] = false
odd_inward fs (l ∷ ls) (v ∷ vs) = xor (is_inward l.arrow && parity_at fs l.sectors v) (odd_inward fs ls vs)

-- 1 or -1 where the values match, else 0
abbrev pub matching : Bool → Bool → Gaussian
matching match odd = cond match (signed odd one_g) zero_g

-- the legs of the fuse table: the fused leg, and then the flipped legs, last first
abbrev pub fuse_legs : List Factor → List LegValue → Dir → List LegValue
fuse_legs fs ls arrow = fused_leg fs ls arrow ∷ conjugate_legs ls

-- the entry of the fuse table at a value of the fused leg and values of the legs, last first: where they match it is 1, or -1 where an odd number of the In legs have odd values
abbrev pub fuse_entry : List Factor → List LegValue → Dir → List ℕ → Gaussian
fuse_entry fs ls arrow [] = zero_g
fuse_entry fs ls arrow (w ∷ us) = matching (stands_at (fused_values fs ls arrow) w (reverse us)) (odd_inward fs ls (reverse us))

-- the legs of the split table: the legs, and then the flipped fused leg
abbrev pub split_legs : List Factor → List LegValue → Dir → List LegValue
split_legs fs ls arrow = ls ++ (flipped (fused_leg fs ls arrow) ∷ [])

-- the entry of the split table, by the values last first
abbrev pub split_entry_backwards : List Factor → List LegValue → Dir → List ℕ → Gaussian
split_entry_backwards fs ls arrow [] = zero_g
split_entry_backwards fs ls arrow (w ∷ us) = matching (stands_at (fused_values fs ls arrow) w (reverse us)) (is_inward arrow && parity_at fs (fused_sectors fs ls arrow) w)

-- the entry of the split table at values of the legs and then a value of the fused leg: where they match it is 1, or -1 where the fused leg is In and its value is odd
abbrev pub split_entry : List Factor → List LegValue → Dir → List ℕ → Gaussian
split_entry fs ls arrow xs = split_entry_backwards fs ls arrow (reverse xs)

-- a row for each of these values of the legs, numbered from w on
abbrev pub numbered : (ℕ → List ℕ → Row) → ℕ → List (List ℕ) → List Row
numbered row w [] = []
numbered row w (vs ∷ vss) = row w vs ∷ numbered row (w + 1) vss

-- the row of the fuse table at a value of the fused leg and the values of the legs that match it
abbrev pub fuse_row : List Factor → List LegValue → ℕ → List ℕ → Row
fuse_row fs ls w vs = record { values = w ∷ reverse vs; entry = signed (odd_inward fs ls vs) one_g }

-- the row of the split table at these values
abbrev pub split_row : List Factor → List LegValue → Dir → ℕ → List ℕ → Row
split_row fs ls arrow w vs = record { values = vs ++ (w ∷ []); entry = signed (is_inward arrow && parity_at fs (fused_sectors fs ls arrow) w) one_g }

-- the fuse table as a tensor: one row for each value of the fused leg
abbrev pub fuse_tensor : CombinerValue → TensorValue
fuse_tensor c = record {
  group = c.group;
  legs = fuse_legs c.group c.legs c.arrow;
  flux = zero_charge c.group;
  rows = numbered (fuse_row c.group c.legs) 0 (fused_values c.group c.legs c.arrow);
}

-- the split table as a tensor
abbrev pub split_tensor : CombinerValue → TensorValue
split_tensor c = record {
  group = c.group;
  legs = split_legs c.group c.legs c.arrow;
  flux = zero_charge c.group;
  rows = numbered (split_row c.group c.legs c.arrow) 0 (fused_values c.group c.legs c.arrow);
}

-- how the fuse table pairs values: each value of the fused leg with just one value of each leg, which have its charge together, and any values of the legs in range with just one value of the fused leg
pub record IsMatching (c : CombinerValue) : Type 0 where
  pub values : (w : ℕ) (vs : List ℕ) → stands_at (fused_values c.group c.legs c.arrow) w vs ≡ true → IsValues c.legs vs
  pub charge : (w : ℕ) (vs : List ℕ) → stands_at (fused_values c.group c.legs c.arrow) w vs ≡ true → charge_at (fused_sectors c.group c.legs c.arrow) w ≡ fused_charge c.group c.legs c.arrow (sectors_at c.legs vs)
  pub same : (w : ℕ) (us vs : List ℕ) → stands_at (fused_values c.group c.legs c.arrow) w us ≡ true → stands_at (fused_values c.group c.legs c.arrow) w vs ≡ true → us ≡ vs
  pub some : (vs : List ℕ) → IsValues c.legs vs → (w : ℕ) × (stands_at (fused_values c.group c.legs c.arrow) w vs ≡ true)
  pub one : (w x : ℕ) (vs : List ℕ) → stands_at (fused_values c.group c.legs c.arrow) w vs ≡ true → stands_at (fused_values c.group c.legs c.arrow) x vs ≡ true → w ≡ x
  pub long : length (fused_values c.group c.legs c.arrow) ≡ total (fused_sectors c.group c.legs c.arrow)
