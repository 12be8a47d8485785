use Rattle.std.proofs.Common.{rules, ◌≡◌, to_z, of_z, w64, ◌∙◌}
use Rattle.qn_engine.proofs.Finishing.{order_more}
use Rattle.qn_engine.proofs.evaluation.open_order.Goals as goal

pub loop-i-preserved : goal.loop-i-preserved
loop-i-preserved c =
    let item : to_z w64 (of_z w64 c.open_label.result) ≡ c.open_label.result = search rules in
    order_more c.args.labels.now c.loop-i.i c.loop-i.order.items c.push.new.self.items c.place_of_label.result (to_z w64 (of_z w64 c.open_label.result)) c.loop-i.invariant c.in_ok-push.ensures.items c.place_of_label.ensures.place
    (item ∙ c.open_label.ensures)
