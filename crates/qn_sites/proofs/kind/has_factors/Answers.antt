use Rattle.std.proofs.Common.{◌∙◌, refl, sym, false, arith}
use Rattle.std.proofs.lemmas.List.{ext_get_or}
use Rattle.qn_charge.specs.declared.factor.Factor.TheVariants.{U1}
use Rattle.qn_sites.proofs.kind.has_factors.Goals as goal

pub returns : goal.returns
returns g c =
    let facts = c.known.ensures in
    ((λ e. ext_get_or (U1 false) c.args.group.now c.args.factors.now (facts.count ∙ sym c.if-factors.false) (λ i lt. c.loop-i.invariant i (U1 false) (omega arith))), (λ e. refl))
