use Rattle.std.proofs.Common.{rules, ◌≡◌, ℤ, pos, List, to_z, of_z, w64, get_or, sym, ap, ◌∙◌}
use Rattle.qn_plan.proofs.Bringing.{nowhere_here}
use Rattle.qn_plan.proofs.planning.take_label.Goals as goal

pub unreachable-requires : goal.unreachable-requires
unreachable-requires g c =
    let shapes : c.walk.inside.shapes.items ≡ c.args.walk.now.shapes = search rules in
    let left : c.walk.inside.left.items ≡ c.args.walk.now.left = search rules in
    let item : to_z w64 (of_z w64 (get_or c.order-order.result.now c.args.place (pos 0))) ≡ get_or c.order-order.result.now c.args.place (pos 0) = search rules in
    nowhere_here c.legs_left_are_open.ensures c.args.net.now c.known.ensures.well_formed c.args.place _ c.args.steps.now.items c.args.walk.now c.requires.place
    (item ∙ ap (λ (ls : List ℤ). get_or ls c.args.place (pos 0)) c.order-order.ensures) c.requires.reached
    c.deref.result.now (c.deref.ensures.value ∙ left) (sym c.is_listed.ensures ∙ c.if-not-is_listed.false) c.deref-2.result.now (c.deref-2.ensures.value ∙ shapes) c.in-None.ensures
