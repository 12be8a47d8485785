-- The operators of a sum as rules.
use Rattle.std.proofs.Common.{◌≡◌, ℕ, ◌<◌, List, length, get_or, map, sym, ◌∙◌, ap, subst, arith}
use Rattle.std.proofs.lemmas.List.{get_or-map, length-map}
use Rattle.qn_rule.specs.Rules.{RuleValue}
use Rattle.qn_sites.specs.Operators.{OpValue, op_legs}
use Rattle.qn_sites.specs.Sites.{SiteValue, no_operator}
use Rattle.qn_opsum.specs.Sums.{SumValue, no_site, op_at, site_at}
use Rattle.qn_opsum.specs.Refusals.{IsSum}
use Rattle.qn_mpo.specs.Builds.{AnswersSite}
use Rattle.qn_mpo.specs.OperatorRules.{operator_answers, rule_of, rules_in}

site_answers : (s : SiteValue) → ((o : ℕ) → o < length s.ops → (op_at s.ops o).leg ≡ s.leg) → AnswersSite operator_answers s (rules_in s)
site_answers s h = record {
  count = as_many;
  legs = λ o d lt. ap (λ (r : RuleValue OpValue). r.legs) (at o d lt) ∙ ap op_legs (h o (below o lt));
  entries = λ o d lt xs z r e. subst (λ (q : RuleValue OpValue). operator_answers q.function xs z) (at o d lt) e;
}
  where
    as_many : length (rules_in s) ≡ length s.ops
    as_many = length-map s.ops rule_of

    below : (o : ℕ) → o < length (rules_in s) → o < length s.ops
    below o lt = omega (arith, lt, as_many)

    at : (o : ℕ) (d : RuleValue OpValue) → o < length (rules_in s) → get_or (rules_in s) o d ≡ rule_of (op_at s.ops o)
    at o d lt = get_or-map rule_of s.ops o no_operator d (below o lt)

-- the rules that are made, site by site: f is what a list of rules holds
module _ {A : Type 0} (f : A → List (RuleValue OpValue)) where
  pub rules_count : (v : SumValue) (all : List A) → map f all ≡ map rules_in v.sites → length all ≡ length v.sites
  rules_count v all e = sym (length-map all f) ∙ (ap length e ∙ length-map v.sites rules_in)

  pub rules_answer : (v : SumValue) → IsSum v → (all : List A) → map f all ≡ map rules_in v.sites → (j : ℕ) (d : A) → j < length all → AnswersSite operator_answers (site_at v.sites j) (f (get_or all j d))
  rules_answer v h all e j d lt =
      subst (AnswersSite operator_answers (site_at v.sites j))
      (sym (get_or-map rules_in v.sites j no_site (f d) below) ∙ (ap (λ xs. get_or xs j (f d)) (sym e) ∙ get_or-map f all j d (f d) lt))
      (site_answers (site_at v.sites j) (λ o less. ((h.sites.sites j no_site below).ops o no_operator less).leg))
    where
      below : j < length v.sites
      below = omega (arith, lt, rules_count v all e)
