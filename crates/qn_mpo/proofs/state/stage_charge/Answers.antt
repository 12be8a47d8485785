use Rattle.std.proofs.Common.{lit<, ◌∙◌, ap, subst, sym}
use Rattle.qn_auto.specs.SumAutomaton.{state_charge}
use Rattle.qn_auto.specs.Terms.{IsStageOf}
use Rattle.qn_auto.proofs.Terms.{charge_to_come, list_known}
use Rattle.qn_mpo.proofs.state.stage_charge.Goals as goal

pub charge_left-requires : goal.charge_left-requires
charge_left-requires g c = (lit< tt, (lit< tt, list_known c.args.sum.now c.in-Some.rest.now (subst (IsStageOf c.args.sum.now) c.in-Some.ensures c.requires)))

pub returns-in-Some : goal.returns-in-Some
returns-in-Some g c = c.charge_left.ensures ∙ (charge_to_come c.args.sum.now c.known.ensures c.in-Some.rest.now ∙ ap (state_charge c.args.sum.now) (sym c.in-Some.ensures))
