use Rattle.std.proofs.Common.{lit<, ◌∙◌, ap, ap₂, get_or, map, refl}
use Rattle.std.proofs.lemmas.List.{get_or_default}
use Rattle.qn_gauss.specs.Gaussian.{signed}
use Rattle.qn_opsum.specs.Sums.{factor_of, no_term}
use Rattle.qn_mpo.proofs.Terms.{ordered_is, sites_fit}
use Rattle.qn_mpo.proofs.term.ordered_term.Goals as goal

pub numbered_all-requires : goal.numbered_all-requires
numbered_all-requires g c =
    (lit< tt, sites_fit c.args.sum.now c.known.ensures c.args.term c.requires c.in_ok-normal.normal.factors c.factors_of.result.now c.in_ok-normal.ensures.order c.factors_of.ensures c.sites.result.now c.sites.ensures)

pub returns : goal.returns
returns g c =
    ordered_is c.args.sum.now c.known.ensures c.args.term c.requires c.in_ok-normal.normal c.in_ok-normal.ensures.order c.in_ok-normal.ensures.sign
    c.index-terms-term.result ((c.index-terms-term.is ∙ ap (λ xs. get_or xs c.args.term c.index-terms-term.result) c.terms.ensures) ∙ get_or_default c.args.sum.now.terms c.args.term c.index-terms-term.result no_term c.requires)
    c.with_sign-amount.result (c.with_sign-amount.ensures ∙ ap₂ signed c.is_negative.ensures c.coef_of-coef.ensures)
    c.in_ok-factors.factors.items (c.in_ok-factors.ensures ∙ ap₂ (λ ss fs. map (factor_of ss) fs) c.sites.ensures c.factors_of.ensures)
    _ refl refl
