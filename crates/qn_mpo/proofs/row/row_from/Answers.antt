use Rattle.std.proofs.Common.{lit<, subst, sym, ◌∙◌, ◌≤◌, ◌+◌}
use Rattle.std.specs.Prelude.{IfErr, IfOk, OnOk}
use Rattle.qn_auto.specs.Automaton.{Stage}
use Rattle.qn_auto.specs.Terms.{IsStageOf}
use Rattle.qn_auto.specs.SumAutomaton.{sites_in, terms_in}
use Rattle.qn_auto.proofs.Terms.{list_known}
use Rattle.qn_mpo.specs.Rows.{IsRowFrom, PassesFrom, steps_from}
use Rattle.qn_mpo.specs.Tables.{IsStop}
use Rattle.qn_mpo.proofs.Rows.{later_steps}
use Rattle.qn_mpo.proofs.row.row_from.Goals as goal

pub later_row-requires : goal.later_row-requires
later_row-requires g c = (lit< tt, list_known c.args.scene.now.sum c.in-Some.rest.now (subst (IsStageOf c.args.scene.now.sum) (sym c.stage.ensures ∙ c.in-Some.ensures) c.requires))

pub returns-in-Some-clause-ok : goal.returns-in-Some-clause-ok
returns-in-Some-clause-ok g c =
    subst (λ (q : Stage). IfOk c.later_row.result (IsRowFrom c.args.scene.now.sum c.args.scene.now.site q)) (sym (sym c.stage.ensures ∙ c.in-Some.ensures)) c.later_row.ensures.ok

pub returns-in-Some-clause-none : goal.returns-in-Some-clause-none
returns-in-Some-clause-none g c =
    subst (λ (q : Stage). OnOk c.later_row.result (PassesFrom c.args.scene.now.sum c.args.scene.now.site q → ⊥)) (sym (sym c.stage.ensures ∙ c.in-Some.ensures)) c.later_row.ensures.none

pub returns-in-Some-clause-err : goal.returns-in-Some-clause-err
returns-in-Some-clause-err g c =
    subst (λ (q : Stage). IfErr c.later_row.result (IsStop (PassesFrom c.args.scene.now.sum c.args.scene.now.site q))) (sym (sym c.stage.ensures ∙ c.in-Some.ensures)) c.later_row.ensures.err

pub returns-in-Some-clause-ticks : goal.returns-in-Some-clause-ticks
returns-in-Some-clause-ticks g c =
    subst (λ (q : Stage). c.later_row.new.steps ≤ c.args.steps.now + steps_from (sites_in c.args.scene.now.sum) (terms_in c.args.scene.now.sum) c.args.scene.now.site q) (sym (sym c.stage.ensures ∙ c.in-Some.ensures))
    (later_steps c.args.scene.now.sum c.args.scene.now.site c.args.scene.now.dim c.in-Some.rest.now c.args.steps.now c.later_row.new.steps c.known.ensures.dim c.later_row.ensures.ticks)

pub returns-in-None-clause-ok : goal.returns-in-None-clause-ok
returns-in-None-clause-ok g c =
    subst (λ (q : Stage). IfOk c.first_row.result (IsRowFrom c.args.scene.now.sum c.args.scene.now.site q)) (sym (sym c.stage.ensures ∙ c.in-None.ensures)) c.first_row.ensures.ok

pub returns-in-None-clause-none : goal.returns-in-None-clause-none
returns-in-None-clause-none g c =
    subst (λ (q : Stage). OnOk c.first_row.result (PassesFrom c.args.scene.now.sum c.args.scene.now.site q → ⊥)) (sym (sym c.stage.ensures ∙ c.in-None.ensures)) c.first_row.ensures.none

pub returns-in-None-clause-err : goal.returns-in-None-clause-err
returns-in-None-clause-err g c =
    subst (λ (q : Stage). IfErr c.first_row.result (IsStop (PassesFrom c.args.scene.now.sum c.args.scene.now.site q))) (sym (sym c.stage.ensures ∙ c.in-None.ensures)) c.first_row.ensures.err

pub returns-in-None-clause-ticks : goal.returns-in-None-clause-ticks
returns-in-None-clause-ticks g c =
    subst (λ (q : Stage). c.first_row.new.steps ≤ c.args.steps.now + steps_from (sites_in c.args.scene.now.sum) (terms_in c.args.scene.now.sum) c.args.scene.now.site q) (sym (sym c.stage.ensures ∙ c.in-None.ensures)) c.first_row.ensures.ticks
