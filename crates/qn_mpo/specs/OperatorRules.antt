-- Operators as rules.
use Rattle.std.specs.Prelude.{◌≡◌, ℕ, List, map}
use Rattle.qn_gauss.specs.Gaussian.{Gaussian}
use Rattle.qn_rule.specs.Rules.{RuleValue}
use Rattle.qn_sites.specs.Operators.{OpValue, column_of, element, op_legs, row_of}
use Rattle.qn_sites.specs.Sites.{SiteValue}

-- an operator as the function of a tensor's entries
abbrev pub rule_of : OpValue → RuleValue OpValue
rule_of o = record { group = o.group; legs = op_legs o.leg; flux = o.charge; function = o }

-- the operators of a site as functions, in order
abbrev pub rules_in : SiteValue → List (RuleValue OpValue)
rules_in s = map rule_of s.ops

-- what an operator answers as a function of a row and a column: its entry there
abbrev pub operator_answers : OpValue → List ℕ → Gaussian → Type 0
operator_answers o xs z = z ≡ element o (row_of xs) (column_of xs)
