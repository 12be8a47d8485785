-- Rules one after another.
use Rattle.std.proofs.Common.{◌≡◌, ◌≤◌, ◌<◌, ℕ, ◌+◌, None, List, ◌∷◌, sym, ◌∙◌, ap, length, drop, get_or, add-one, arith}
use Rattle.std.specs.Option.{option_or, option_map}
use Rattle.std.proofs.Math.Seq.{drop-cons}
use Rattle.qn_value.specs.Magnitudes.{Place}
use Rattle.qn_block.specs.Blocked.{BlockedValue}
use Rattle.qn_lazy.specs.Rules.{RulePlace, all_applied, applied, asked_of_rule, asked_of_rules, cost_of_rule, cost_of_rules, first_passing_rule, passing_of}
use Rattle.qn_lazy.specs.declared.lazy_rule.LazyRule.{LazyRule}

-- where the rules from place i on are to be applied to t, those before having been applied to s
pub record AreBefore (first : ℕ) (s t : BlockedValue) (rules : List LazyRule) (i steps_old steps asks_old asks : ℕ) : Type 0 where
  pub group : t.group ≡ s.group
  pub legs : t.legs ≡ s.legs
  pub value : all_applied t (drop i rules) ≡ all_applied s rules
  pub passing : first_passing_rule (first + i) t (drop i rules) ≡ first_passing_rule first s rules
  pub cost : steps + cost_of_rules t (drop i rules) ≤ steps_old + cost_of_rules s rules
  pub asked : asks + asked_of_rules t (drop i rules) ≤ asks_old + asked_of_rules s rules

module _ (first : ℕ) (s t q : BlockedValue) (rules : List LazyRule) (i steps_old steps steps_new asks_old asks asks_new : ℕ) (d : LazyRule)
    (h : AreBefore first s t rules i steps_old steps asks_old asks) (lt : i < length rules) where
  abbrev r : LazyRule
  r = get_or rules i d

  here : drop i rules ≡ r ∷ drop (i + 1) rules
  here = drop-cons rules i d lt ∙ ap (λ k. r ∷ drop k rules) (sym (add-one i))

  next : first + i + 1 ≡ first + (i + 1)
  next = omega arith

  pub before_next : q ≡ applied t r → passing_of t r ≡ None → steps_new ≤ steps + cost_of_rule t r → asks_new ≤ asks + asked_of_rule t r →
      AreBefore first s q rules (i + 1) steps_old steps_new asks_old asks_new
  before_next is clear few rare = record {
    group = ap (λ (x : BlockedValue). x.group) is ∙ h.group;
    legs = ap (λ (x : BlockedValue). x.legs) is ∙ h.legs;
    value = ap (λ x. all_applied x (drop (i + 1) rules)) is ∙ sym (ap (all_applied t) here) ∙ h.value;
    passing =
        ap (λ x. first_passing_rule (first + (i + 1)) x (drop (i + 1) rules)) is
        ∙ ap (λ n. first_passing_rule n (applied t r) (drop (i + 1) rules)) (sym next)
        ∙ sym (ap (λ o. option_or (option_map (λ (x : Place). let place : RulePlace = record { rule = first + i; tuple = x.tuple; offset = x.offset } in place) o)
        (first_passing_rule (first + i + 1) (applied t r) (drop (i + 1) rules))) clear)
        ∙ sym (ap (first_passing_rule (first + i) t) here)
        ∙ h.passing;
    cost =
        let whole : cost_of_rules t (drop i rules) ≡ cost_of_rule t r + cost_of_rules (applied t r) (drop (i + 1) rules) = ap (cost_of_rules t) here in
        let same : cost_of_rules q (drop (i + 1) rules) ≡ cost_of_rules (applied t r) (drop (i + 1) rules) = ap (λ x. cost_of_rules x (drop (i + 1) rules)) is in
        omega (arith, whole, same, few, h.cost);
    asked =
        let whole : asked_of_rules t (drop i rules) ≡ asked_of_rule t r + asked_of_rules (applied t r) (drop (i + 1) rules) = ap (asked_of_rules t) here in
        let same : asked_of_rules q (drop (i + 1) rules) ≡ asked_of_rules (applied t r) (drop (i + 1) rules) = ap (λ x. asked_of_rules x (drop (i + 1) rules)) is in
        omega (arith, whole, same, rare, h.asked);
  }
