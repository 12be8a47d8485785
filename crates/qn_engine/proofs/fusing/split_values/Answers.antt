use Rattle.std.proofs.Common.{arith, lit<}
use Rattle.qn_engine.proofs.FusedArrays.{left_long, split_more, split_done, fused_below}
use Rattle.qn_engine.proofs.fusing.split_values.Goals as goal

pub bounds-left-i : goal.bounds-left-i
bounds-left-i g c = omega (arith, c.loop-i-test.true, left_long c.args.combiner.now c.known.ensures c.args.left.now c.value_of-value.result c.legs-n.result.now c.legs-n.ensures c.requires c.value_of-value.ensures)

pub loop-i-preserved : goal.loop-i-preserved
loop-i-preserved g c = split_more c.args.combiner.now c.known.ensures c.args.left.now c.value_of-value.result c.legs-n.result.now c.legs-n.ensures c.requires c.value_of-value.ensures c.loop-i.i c.loop-i.values c.loop-i-test.true c.loop-i.invariant

pub is_odd_inward-requires : goal.is_odd_inward-requires
is_odd_inward-requires g c = (
  lit< tt,
  (lit< tt, fused_below c.args.combiner.now c.known.ensures c.args.left.now c.value_of-value.result c.legs-n.result.now c.legs-n.ensures c.requires c.value_of-value.ensures c.fused.result.now c.fused.ensures),
)

pub returns : goal.returns
returns g c =
    split_done c.args.combiner.now c.known.ensures c.args.left.now c.value_of-value.result c.legs-n.result.now c.legs-n.ensures c.requires c.value_of-value.ensures c.loop-i.i c.loop-i.values c.group.result.now c.fused.result.now c.is_odd_inward.result
    c.loop-i-test.false c.loop-i.auto.i-end c.loop-i.invariant c.group.ensures c.fused.ensures c.is_odd_inward.ensures
