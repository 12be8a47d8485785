use Rattle.std.proofs.Common.{arith, ◌≡◌, ◌<◌, ◌∙◌, ap, subst, [], ◌∷◌, List, length, get_or}
use Rattle.std.proofs.lemmas.List.{get_or_default}
use Rattle.qn_index.specs.Legs.{LegValue}
use Rattle.qn_value.specs.Local.{no_leg}
use Rattle.qn_block.specs.Blocked.{tensor_of}
use Rattle.qn_block.specs.Steps.{IsStepFault}
use Rattle.qn_unmet.specs.Unmet.{passing_place}
use Rattle.qn_lazy.specs.LegRules.{LegRuleValue, rule_table}
use Rattle.qn_lazy.specs.Rules.{leg_at, place_of, rule_on}
use Rattle.qn_lazy.proofs.rules.applied.Goals as goal

pub returns-in-Err-clause-err : goal.returns-in-Err-clause-err
returns-in-Err-clause-err g c =
    let t = c.args.t.now in
    let place : c.place-place.result ≡ place_of c.args.rule = c.place-place.ensures in
    let long : length c.legs.result.now ≡ length t.legs = ap (λ (ls : List LegValue). length ls) c.legs.ensures in
    let lt : c.place-place.result < length c.legs.result.now = omega (arith, c.place-place.ensures, c.requires.some, c.requires.there, long) in
    let leg : c.in_ok-leg.leg ≡ leg_at t.legs c.args.rule =
    c.in_ok-leg.ensures ∙ c.index-legs-place.is ∙ get_or_default c.legs.result.now c.place-place.result c.index-legs-place.result no_leg lt
    ∙ (λ i. get_or (c.legs.ensures i) (place i) no_leg) in
    let rule : c.new-rule.result ≡ rule_on t c.args.rule =
    c.new-rule.ensures ∙ (λ i. let made : LegRuleValue = record { group = c.group-2.ensures i; leg = leg i; part = c.part.ensures.part i } in made) in
    subst (λ (f : LegRuleValue). IsStepFault (passing_place (rule_table f) (tensor_of t) ((1, place_of c.args.rule) ∷ [])) c.in-Err.fault) rule
    (subst (λ m. IsStepFault (passing_place (rule_table c.new-rule.result) (tensor_of t) ((1, m) ∷ [])) c.in-Err.fault) place c.in-Err.ensures.err)
