-- Rules that weigh the values of one leg, by 1 or by a part of their charge.
-- Singh, Pfeifer and Vidal 2010; the sign by the exchange rule of super vector spaces.
use Rattle.std.specs.Prelude.{◌<◌, ℕ, pos, Option, Some, None, List, [], ◌∷◌, map, slice_index_or}
use Rattle.std.specs.List.{range_with_len}
use Rattle.qn_gauss.specs.Gaussian.{Gaussian, one_g}
use Rattle.qn_charge.specs.declared.factor.Factor.{Factor}
use Rattle.qn_charge.specs.Charges.{zero_charge}
use Rattle.qn_index.specs.Legs.{LegValue, IsLegOf, sector_at, sector_of, total, flipped}
use Rattle.qn_value.specs.Tensors.{TensorValue}
use Rattle.qn_diagonal.specs.Diagonal.{diagonal_entry}

-- the group, the leg, and the number of the part of the charge that is the weight, or none where the weight is 1
pub record LegRuleValue : Type 0 where
  pub group : List Factor
  pub leg : LegValue
  pub part : Option ℕ

-- the weight of the values of a sector
abbrev pub sector_weight : LegValue → Option ℕ → ℕ → Gaussian
sector_weight l None s = one_g
sector_weight l (Some k) s = record { re = slice_index_or (sector_at l.sectors s).charge k (pos 0); im = pos 0 }

-- the weight of a value
abbrev pub weight_of : LegValue → Option ℕ → ℕ → Gaussian
weight_of l part v = sector_weight l part (sector_of l.sectors v)

abbrev pub legs_of : LegValue → List LegValue
legs_of l = l ∷ flipped l ∷ []

-- the rule's entry at two values
abbrev pub entry_of_rule : LegRuleValue → List ℕ → Gaussian
entry_of_rule r xs = diagonal_entry r.group r.leg (weight_of r.leg r.part) (slice_index_or xs 0 0) (slice_index_or xs 1 0)

-- the rule's table: the tensor with these legs and flux zero that has these entries
abbrev pub rule_table : LegRuleValue → TensorValue
rule_table r = record {
  group = r.group;
  legs = legs_of r.leg;
  flux = zero_charge r.group;
  rows = map (λ v. record { values = v ∷ v ∷ []; entry = entry_of_rule r (v ∷ v ∷ []) }) (range_with_len 0 (total r.leg.sectors));
}

-- the part is one of n
abbrev pub IsPartOf : ℕ → Option ℕ → Type 0
IsPartOf n None = Unit {0}
IsPartOf n (Some k) = k < n

pub record IsLegRule (n : ℕ) (r : LegRuleValue) : Type 0 where
  pub charges : IsLegOf r.group r.leg
  pub part : IsPartOf n r.part
