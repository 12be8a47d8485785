use Rattle.std.proofs.Common.{rules, ◌≡◌, pos, get_or, drop, to_z, of_z, w64, ◌∙◌, ap}
use Rattle.qn_value.specs.Labels.{is_inward}
use Rattle.qn_engine.specs.Twisting.{is_twisted_leg, twisted_places}
use Rattle.qn_engine.proofs.TwistedParts.{places_next, places_end}
use Rattle.qn_engine.proofs.twisting.twisted_places.Goals as goal

pub loop-i-preserved : goal.loop-i-preserved
loop-i-preserved g c =
    let label : to_z w64 (of_z w64 (get_or c.args.labels.now c.loop-i.i (pos 0))) ≡ get_or c.args.labels.now c.loop-i.i (pos 0) = search rules in
    places_next c.args.all c.args.summed.now c.args.twist.now c.loop-i.i c.args.legs.now c.args.labels.now c.index-legs-i.result c.is_twisted_leg-is_twisted.result c.loop-i.places.items c.add_place.new.out.items
    (twisted_places c.args.all c.args.summed.now c.args.twist.now 0 c.args.legs.now c.args.labels.now)
    c.loop-i-test.true c.requires c.index-legs-i.is
    (c.is_twisted_leg-is_twisted.ensures ∙ ap (is_twisted_leg c.args.all c.args.summed.now c.args.twist.now c.points_in-inward.result) label
    ∙ ap (λ b. is_twisted_leg c.args.all c.args.summed.now c.args.twist.now b (get_or c.args.labels.now c.loop-i.i (pos 0))) (c.points_in-inward.ensures ∙ ap is_inward c.dir.ensures))
    c.in_ok-add_place.ensures c.loop-i.invariant

pub returns : goal.returns
returns g c = places_end c.args.all c.args.summed.now c.args.twist.now c.loop-i.i c.args.legs.now (drop c.loop-i.i c.args.labels.now) c.loop-i.places.items
    (twisted_places c.args.all c.args.summed.now c.args.twist.now 0 c.args.legs.now c.args.labels.now) c.loop-i-test.false c.loop-i.invariant
