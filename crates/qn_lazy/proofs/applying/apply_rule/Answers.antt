use Rattle.std.proofs.Common.{arith, lit<, ◌≡◌, ◌<◌, sym, subst, [], ◌∷◌, false, length}
use Rattle.qn_index.specs.Extents.{IsWithinLimits}
use Rattle.qn_value.specs.Local.{Moved, Pairwise}
use Rattle.qn_block.specs.Blocked.{tensor_of}
use Rattle.qn_rule.specs.Rules.{RuleValue}
use Rattle.qn_diagonal.specs.Diagonal.{put_back}
use Rattle.qn_lazy.specs.Asked.{HasOneAnswer, IsRulePair, IsTable}
use Rattle.qn_lazy.specs.LegRules.{LegRuleValue, rule_table}
use Rattle.qn_lazy.specs.Meaning.{answers_of, as_rule}
use Rattle.qn_lazy.proofs.Applied.{as_many, rule_paired, table, weighed}
use Rattle.qn_lazy.proofs.applying.apply_rule.Goals as goal

pub contract_lazy-requires-after_bounds : goal.contract_lazy-requires-after_bounds
contract_lazy-requires-after_bounds g c κs within =
    let r = c.args.rule in
    let t = c.args.t.now in
    let asked : RuleValue LegRuleValue → Type 0 = λ x. IsRulePair x t ((1, c.args.m) ∷ []) × (IsWithinLimits x.group x.legs x.flux × HasOneAnswer answers_of x) in
    let made : asked (as_rule r) =
    (record { group = c.requires.group; shapes = rule_paired t c.args.m c.known.ensures c.requires.place r c.requires.group c.requires.leg }, (c.requires.shape, c.one_answer_law.ensures r)) in
    (lit< tt, (lit< tt, subst asked (sym c.in_ok-counted.ensures) made))

pub first_put_back-requires-after_bounds : goal.first_put_back-requires-after_bounds
first_put_back-requires-after_bounds g c κs within =
    let r = c.args.rule in
    let t = c.args.t.now in
    let tabled : IsTable answers_of c.in_ok-counted.counted (rule_table r) =
    subst (λ (x : RuleValue LegRuleValue). IsTable answers_of x (rule_table r)) (sym c.in_ok-counted.ensures) (table t c.args.m c.known.ensures c.requires.place r c.requires.group c.requires.leg) in
    let same : length c.in-Ok.moved.legs ≡ length t.legs =
    as_many t c.args.m c.known.ensures c.requires.place r c.requires.group c.requires.leg (tensor_of c.in-Ok.moved) (c.in-Ok.ensures.value (rule_table r) tabled) in
    let lt : c.args.m < length c.in-Ok.moved.legs = omega (arith, same, c.requires.place) in
    (lit< tt, lt)

pub returns-in-Ok-first_put_back-clause-value : goal.returns-in-Ok-first_put_back-clause-value
returns-in-Ok-first_put_back-clause-value g c =
    let r = c.args.rule in
    let t = c.args.t.now in
    let tabled : IsTable answers_of c.in_ok-counted.counted (rule_table r) =
    subst (λ (x : RuleValue LegRuleValue). IsTable answers_of x (rule_table r)) (sym c.in_ok-counted.ensures) (table t c.args.m c.known.ensures c.requires.place r c.requires.group c.requires.leg) in
    let pair : Pairwise (rule_table r) (tensor_of t) ((1, c.args.m) ∷ []) false (tensor_of c.in-Ok.moved) = c.in-Ok.ensures.value (rule_table r) tabled in
    let same : length c.in-Ok.moved.legs ≡ length t.legs =
    as_many t c.args.m c.known.ensures c.requires.place r c.requires.group c.requires.leg (tensor_of c.in-Ok.moved) pair in
    weighed t c.args.m c.known.ensures c.requires.place r c.requires.group c.requires.leg (tensor_of c.in-Ok.moved) (tensor_of c.in-Ok-first_put_back.weighed) pair
    (subst (λ n. Moved (tensor_of c.in-Ok.moved) (put_back c.args.m n) (tensor_of c.in-Ok-first_put_back.weighed)) same c.in-Ok-first_put_back.ensures)

pub returns-in-Ok-first_put_back-clause-clear : goal.returns-in-Ok-first_put_back-clause-clear
returns-in-Ok-first_put_back-clause-clear g c =
    let r = c.args.rule in
    let t = c.args.t.now in
    c.in-Ok.ensures.clear (rule_table r)
    (subst (λ (x : RuleValue LegRuleValue). IsTable answers_of x (rule_table r)) (sym c.in_ok-counted.ensures) (table t c.args.m c.known.ensures c.requires.place r c.requires.group c.requires.leg))

pub returns-clause-err : goal.returns-clause-err
returns-clause-err g c =
    let r = c.args.rule in
    let t = c.args.t.now in
    c.in-Err.ensures.err (rule_table r)
    (subst (λ (x : RuleValue LegRuleValue). IsTable answers_of x (rule_table r)) (sym c.in_ok-counted.ensures) (table t c.args.m c.known.ensures c.requires.place r c.requires.group c.requires.leg))
