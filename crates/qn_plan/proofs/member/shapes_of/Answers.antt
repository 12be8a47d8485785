use Rattle.std.proofs.Common.{List, [], ◌∷◌, ◌++◌, sym, ◌∙◌, ap₂}
use Rattle.qn_plan.specs.Shapes.{ShapeValue}
use Rattle.qn_plan.proofs.Starting.{shapes_more}
use Rattle.qn_plan.proofs.member.shapes_of.Goals as goal

pub loop-i-preserved : goal.loop-i-preserved
loop-i-preserved g c =
    c.in_ok-push.ensures.items
    ∙ ap₂ (λ (ss : List ShapeValue) (s : ShapeValue). ss ++ s ∷ []) c.loop-i.invariant c.in_ok-shape_of.ensures
    ∙ sym (shapes_more c.loop-i.i c.number_of.result c.args.members.now c.index-members-i.result c.loop-i-test.true c.index-members-i.is c.number_of.ensures)
