use Rattle.std.proofs.Common.{◌<◌, length, ◌∙◌, ap₂, arith}
use Rattle.qn_plan.specs.Shapes.{ShapeValue}
use Rattle.qn_plan.specs.ShapeSteps.{joined_step}
use Rattle.qn_plan.proofs.Listing.{shape_read}
use Rattle.qn_plan.proofs.walk.bring_together.Goals as goal

pub returns-clause-step : goal.returns-clause-step
returns-clause-step g c =
    let ss = c.args.shapes.now.items in
    let one : c.args.first < length ss = omega (arith, c.requires.order, c.requires.within) in
    c.in_ok-step.ensures
    ∙ ap₂ (λ (x y : ShapeValue). joined_step c.args.group.now x y c.args.summed.items)
    (shape_read ss c.args.first c.index-3.result.now one c.index-3.ensures)
    (shape_read ss c.args.second c.index-4.result.now c.requires.within c.index-4.ensures)
