use Rattle.std.proofs.Common.{rules, ◌≡◌}
use Rattle.qn_plan.proofs.Bringing.{bring_done}
use Rattle.qn_plan.proofs.planning.bring.Goals as goal

pub returns-clause-done : goal.returns-clause-done
returns-clause-done g c = λ rest p.
    let shapes : c.walk.inside.shapes.items ≡ c.args.walk.now.shapes = search rules in
    bring_done c.args.net.now rest c.args.steps.now.items c.push.new.self.items c.args.walk.now c.args.first c.args.second c.args.parted.summed.items c.args.parted.left.items c.group.result.now c.walk.inside.shapes.items
    c.bring_together.new.shapes.items c.in-Ok.step c.group.ensures shapes c.in-Ok.ensures.narrow c.in-Ok.ensures.step c.in_ok-push.ensures.items c.in-Ok.ensures.shapes p
