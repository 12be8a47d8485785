use Rattle.std.proofs.Common.{rules, subst, sym, ap, ◌∙◌}
use Rattle.qn_auto.specs.SumAutomaton.{states}
use Rattle.qn_auto.specs.Terms.{IsStageOf}
use Rattle.qn_auto.specs.LinkOrder.{IsAscending}
use Rattle.qn_mpo.specs.States.{value_lower, with_charge}
use Rattle.qn_mpo.proofs.Numbers.{number_is, rights_ascend}
use Rattle.qn_mpo.proofs.row.number_of.Goals as goal

pub charged-state-requires : goal.charged-state-requires
charged-state-requires g c = let h = subst (λ v. IsStageOf v c.args.stage) (sym c.sum.ensures) c.requires in search rules

pub place_of-requires : goal.place_of-requires
place_of-requires g c = let h : IsAscending value_lower c.rights.result.now = rights_ascend c.args.scene.now.sum c.args.scene.now.site c.rights.result.now (c.rights.ensures ∙ c.known.ensures.rights) in search rules

pub returns : goal.returns
returns g c =
    number_is c.args.scene.now.sum (states c.args.scene.now.sum c.args.scene.now.site) c.rights.result.now c.args.stage c.charged-state.result c.place_of.result (c.rights.ensures ∙ c.known.ensures.rights)
    (c.charged-state.ensures ∙ ap (λ v. with_charge v c.args.stage) c.sum.ensures) c.place_of.ensures
