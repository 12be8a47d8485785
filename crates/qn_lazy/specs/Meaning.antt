-- What a tensor becomes by a rule of one of its legs.
-- Singh, Pfeifer and Vidal 2010; the sign by the exchange rule of super vector spaces.
use Rattle.std.specs.Prelude.{◌≡◌, ◌<◌, ℕ, false, List, [], ◌∷◌, length, slice_index_or}
use Rattle.qn_gauss.specs.Gaussian.{Gaussian}
use Rattle.qn_charge.specs.Charges.{IsGroup, zero_charge}
use Rattle.qn_index.specs.Legs.{IsLegOf, IsSound}
use Rattle.qn_value.specs.Tensors.{TensorValue, IsTensor}
use Rattle.qn_value.specs.Local.{no_leg, Moved, Pairwise}
use Rattle.qn_rule.specs.Rules.{RuleValue}
use Rattle.qn_lazy.specs.Asked.{HasOneAnswer, IsTable}
use Rattle.qn_diagonal.specs.Diagonal.{IsDiagonal, put_back, Weighed}
use Rattle.qn_lazy.specs.LegRules.{LegRuleValue, legs_of, weight_of, entry_of_rule, rule_table}

-- what the function may answer
abbrev pub answers_of : LegRuleValue → List ℕ → Gaussian → Type 0
answers_of r xs z = z ≡ entry_of_rule r xs

-- the function as a rule
abbrev pub as_rule : LegRuleValue → RuleValue LegRuleValue
as_rule r = record { group = r.group; legs = legs_of r.leg; flux = zero_charge r.group; function = r }

-- it may give one answer only
abbrev pub OneAnswerLaw : Type 0
OneAnswerLaw = (r : LegRuleValue) → HasOneAnswer answers_of (as_rule r)

-- its table is the diagonal tensor with its weights
abbrev pub TableLaw : Type 0
TableLaw = (r : LegRuleValue) (a : TensorValue) → IsTable answers_of (as_rule r) a → IsDiagonal r.group r.leg (weight_of r.leg r.part) a

-- it has a table
abbrev pub HasTableLaw : Type 0
HasTableLaw = (r : LegRuleValue) → IsGroup r.group → IsSound r.leg → IsLegOf r.group r.leg → IsTable answers_of (as_rule r) (rule_table r)

-- the table of a rule of leg m, contracted by its second leg with leg m of a tensor, its first leg being put back in the place m, multiplies each entry by the weight of its value there
abbrev pub LegRuleLaw : Type 0
LegRuleLaw =
    (r : LegRuleValue) (a t p q : TensorValue) (m : ℕ) → IsTensor t → m < length t.legs →
    r.group ≡ t.group → r.leg ≡ slice_index_or t.legs m no_leg → IsTable answers_of (as_rule r) a →
    Pairwise a t ((1, m) ∷ []) false p → Moved p (put_back m (length t.legs)) q → Weighed t m (weight_of r.leg r.part) q
