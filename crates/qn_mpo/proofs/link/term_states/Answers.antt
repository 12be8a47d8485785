use Rattle.std.proofs.Common.{arith, lit<, ◌∙◌, ap, subst, sym}
use Rattle.qn_auto.specs.Automaton.{stage}
use Rattle.qn_auto.specs.Terms.{IsStageOf, IsTermOf}
use Rattle.qn_auto.proofs.Terms.{term_stage_known}
use Rattle.qn_mpo.proofs.link.term_states.Goals as goal

pub charged-requires : goal.charged-requires
charged-requires g c =
    let term = subst (IsTermOf c.args.sum.now) (sym c.term-item.is) (c.requires c.loop-term.term-index c.term-item.result (omega arith)) in (
      lit< tt,
      (
        lit< tt,
        subst (IsStageOf c.args.sum.now) (sym (c.in_ok-stage.ensures ∙ ap (stage c.args.j) c.factors.ensures)) (term_stage_known c.args.sum.now c.args.j c.term-item.result.factors term.known),
      ),
    )
