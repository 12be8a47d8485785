-- Rules of the legs of a tensor, applied one after another.
-- Singh, Pfeifer and Vidal 2010.
use Rattle.std.specs.Prelude.{◌≡◌, ◌≤◌, ℕ, ◌+◌, ◌-◌, Option, Some, None, List, [], ◌∷◌, length, filter, slice_index_or}
use Rattle.std.specs.Option.{option_or, option_map}
use Rattle.qn_gauss.specs.Gaussian.{Gaussian, mul_g}
use Rattle.qn_charge.specs.declared.factor.Factor.{Factor}
use Rattle.qn_charge.specs.Charges.{zero_charge}
use Rattle.qn_index.specs.Legs.{LegValue}
use Rattle.qn_index.specs.Tuples.{admitted}
use Rattle.qn_index.specs.Extents.{IsWithinLimits}
use Rattle.qn_value.specs.Tensors.{entry_of}
use Rattle.qn_value.specs.Local.{no_leg}
use Rattle.qn_value.specs.Magnitudes.{Place, all_blocks}
use Rattle.qn_block.specs.Blocked.{BlockedValue, is_filled, tensor_of}
use Rattle.qn_match.specs.Cost.{cost_of}
use Rattle.qn_unmet.specs.Unmet.{passing_place}
use Rattle.qn_lazy.specs.Asked.{asked_of}
use Rattle.qn_lazy.specs.LegRules.{LegRuleValue, legs_of, weight_of, rule_table}
use Rattle.qn_lazy.specs.declared.lazy_rule.LazyRule.{LazyRule}
use Rattle.qn_lazy.specs.declared.lazy_rule.LazyRule.TheVariants.{Identity, ChargePart}
use Rattle.qn_lazy.specs.declared.rules.RuleFault.{RuleFault}
use Rattle.qn_lazy.specs.declared.rules.RuleFault.TheVariants.{Passed, Memory}

-- the number of the rule's leg, from 1
abbrev pub leg_number : LazyRule → ℕ
leg_number (Identity leg) = leg
leg_number (ChargePart factor leg) = leg

-- the place of the rule's leg, from 0
abbrev pub place_of : LazyRule → ℕ
place_of r = leg_number r - 1

-- the place of the part of the charge that is the weight, from 0, or none where the weight is 1
abbrev pub part_of : LazyRule → Option ℕ
part_of (Identity leg) = None
part_of (ChargePart factor leg) = Some (factor - 1)

-- the number of the rule's factor is one of n
abbrev pub IsFactorOf : ℕ → LazyRule → Type 0
IsFactorOf n (Identity leg) = Unit {0}
IsFactorOf n (ChargePart factor leg) = (1 ≤ factor) × (factor ≤ n)

abbrev pub leg_at : List LegValue → LazyRule → LegValue
leg_at ls r = slice_index_or ls (place_of r) no_leg

-- the rule is one of these legs: there are such a leg and such a factor, and the rule's shape is not too wide
pub record IsRuleOn (fs : List Factor) (ls : List LegValue) (r : LazyRule) : Type 0 where
  pub some : 1 ≤ leg_number r
  pub there : leg_number r ≤ length ls
  pub factor : IsFactorOf (length fs) r
  pub shape : IsWithinLimits fs (legs_of (leg_at ls r)) (zero_charge fs)

-- the rule as a function, for a leg of this tensor
abbrev pub rule_on : BlockedValue → LazyRule → LegRuleValue
rule_on t r = record { group = t.group; leg = leg_at t.legs r; part = part_of r }

-- the weight of a value of the rule's leg
abbrev pub weight_on : BlockedValue → LazyRule → ℕ → Gaussian
weight_on t r = weight_of (leg_at t.legs r) (part_of r)

-- the tensor with each entry multiplied by the weight of its value at the rule's leg; blocks that are all zeros are left out
abbrev pub applied : BlockedValue → LazyRule → BlockedValue
applied t r = record {
  group = t.group;
  legs = t.legs;
  flux = t.flux;
  blocks = filter is_filled (all_blocks (λ xs. mul_g (weight_on t r (slice_index_or xs (place_of r) 0)) (entry_of (tensor_of t) xs)) t.legs (admitted t.group t.legs t.flux));
}

-- one rule after another
abbrev pub all_applied : BlockedValue → List LazyRule → BlockedValue
all_applied t [] = t
all_applied t (r ∷ rs) = all_applied (applied t r) rs

-- the first place at which the rule passes: by the rule's first leg and then the other legs of the tensor
abbrev pub passing_of : BlockedValue → LazyRule → Option Place
passing_of t r = passing_place (rule_table (rule_on t r)) (tensor_of t) ((1, place_of r) ∷ [])

-- a rule, by its number, and a place in what it gives
pub record RulePlace : Type 0 where
  pub rule : ℕ
  pub tuple : List ℕ
  pub offset : ℕ

-- the first rule that passes, the rules being numbered from n, and its first place
abbrev pub first_passing_rule : ℕ → BlockedValue → List LazyRule → Option RulePlace
first_passing_rule n t [] = None
first_passing_rule n t (r ∷ rs) =
    option_or (option_map (λ p. record { rule = n; tuple = p.tuple; offset = p.offset }) (passing_of t r)) (first_passing_rule (n + 1) (applied t r) rs)

-- why rules have no result: the first that passes, or memory was wanting
abbrev pub IsRuleFault : Option RulePlace → RuleFault → Type 0
IsRuleFault first (Passed rule at offset) = first ≡ Some (record { rule = rule; tuple = at; offset = offset })
IsRuleFault first Memory = Unit {0}

-- what a rule costs
abbrev pub cost_of_rule : BlockedValue → LazyRule → ℕ
cost_of_rule t r = cost_of t.group (legs_of (leg_at t.legs r)) (zero_charge t.group) t.legs t.flux ((1, place_of r) ∷ [])

-- what rules cost together
abbrev pub cost_of_rules : BlockedValue → List LazyRule → ℕ
cost_of_rules t [] = 0
cost_of_rules t (r ∷ rs) = cost_of_rule t r + cost_of_rules (applied t r) rs

-- how often a rule is asked at most
abbrev pub asked_of_rule : BlockedValue → LazyRule → ℕ
asked_of_rule t r = asked_of t.group (legs_of (leg_at t.legs r)) (zero_charge t.group) ((1, place_of r) ∷ []) t.blocks

abbrev pub asked_of_rules : BlockedValue → List LazyRule → ℕ
asked_of_rules t [] = 0
asked_of_rules t (r ∷ rs) = asked_of_rule t r + asked_of_rules (applied t r) rs
