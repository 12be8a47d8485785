use Rattle.std.proofs.Common.{◌≡◌, ◌∙◌, ap, get_or, subst, sym}
use Rattle.qn_opsum.specs.Strings.{Factor}
use Rattle.qn_auto.specs.SumAutomaton.{op_charge}
use Rattle.qn_auto.specs.Terms.{IsFactorOf}
use Rattle.qn_mpo.proofs.Charges.{op_charge_is}
use Rattle.qn_mpo.proofs.state.op_of.Goals as goal

pub returns : goal.returns
returns g c =
    let f : Factor = record { site = c.factor.inside.site; op = c.factor.inside.op } in
    let same : f ≡ c.args.factor.now = c.factor.view_is in
    let known : IsFactorOf c.args.sum.now f = subst (IsFactorOf c.args.sum.now) (sym same) c.requires in
    op_charge_is c.args.sum.now.sites f.site f.op c.index-sites-factor.result c.index-ops-factor.result c.ops.result.now known.site
    (c.index-sites-factor.is ∙ ap (λ xs. get_or xs f.site c.index-sites-factor.result) c.sites.ensures) c.ops.ensures known.op c.index-ops-factor.is
    ∙ ap (λ (x : Factor). op_charge c.args.sum.now.sites x.site x.op) same
