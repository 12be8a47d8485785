use Rattle.std.proofs.Common.{◌∙◌, [], arith, sym, subst}
use Rattle.std.proofs.lemmas.Bool.{false≢true}
use Rattle.std.proofs.lemmas.List.{get_or_default}
use Rattle.qn_opsum.specs.Refusals.{BadName, IsUnknown}
use Rattle.qn_opsum.proofs.checks.first_unknown.Goals as goal
use Rattle.qn_facts.proofs.Numbers.{one_more}

pub loop-i-preserved : goal.loop-i-preserved
loop-i-preserved g c =
    one_more (λ j. BadName c.args.sites.now c.args.factors.now j → ⊥) c.loop-i.i c.loop-i.invariant
    (λ bad. false≢true (c.if-is_unknown.ensures.1
    (subst (IsUnknown c.args.sites.now) (sym (c.index-factors-i.is ∙ get_or_default c.args.factors.now c.loop-i.i c.index-factors-i.result (0, []) bad.0)) bad.1)))

pub returns : goal.returns
returns g c = λ j bad. c.loop-i.invariant j (let lt = bad.0 in omega (arith, lt)) bad
