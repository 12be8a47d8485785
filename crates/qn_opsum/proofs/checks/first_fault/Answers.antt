use Rattle.std.proofs.Common.{◌∙◌, ap, subst}
use Rattle.std.proofs.lemmas.List.{get_or_default}
use Rattle.qn_opsum.specs.Sums.{TermValue, no_term, term_at}
use Rattle.qn_opsum.specs.Refusals.{IsGood}
use Rattle.qn_opsum.proofs.checks.first_fault.Goals as goal
use Rattle.qn_facts.proofs.Numbers.{one_more}

pub loop-term-preserved : goal.loop-term-preserved
loop-term-preserved g c =
    one_more (λ j. IsGood c.args.sites.now (term_at c.args.terms.now j).factors) c.loop-term.term c.loop-term.invariant
    (subst (IsGood c.args.sites.now)
    (c.factors.ensures ∙ ap (λ (w : TermValue). w.factors) (c.index-terms-term.is ∙ get_or_default c.args.terms.now c.loop-term.term c.index-terms-term.result no_term c.loop-term-test.true))
    c.in-None.ensures)
