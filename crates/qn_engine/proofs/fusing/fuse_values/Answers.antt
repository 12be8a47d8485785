use Rattle.std.proofs.Common.{lit<}
use Rattle.qn_engine.proofs.FusedArrays.{fuse_range, fuse_more, fuse_done}
use Rattle.qn_engine.proofs.fusing.fuse_values.Goals as goal

pub loop-i-preserved : goal.loop-i-preserved
loop-i-preserved g c = fuse_more c.args.combiner.now c.known.ensures c.args.value c.legs-legs.result.now c.values_of-all.result c.legs-legs.ensures c.values_of-all.ensures c.loop-i.i c.loop-i.values c.loop-i-test.true c.loop-i.invariant

pub odd_inward-requires : goal.odd_inward-requires
odd_inward-requires g c = (lit< tt, (lit< tt, fuse_range c.args.combiner.now c.known.ensures c.args.value c.legs-legs.result.now c.values_of-all.result c.legs-legs.ensures c.values_of-all.ensures))

pub returns : goal.returns
returns g c =
    fuse_done c.args.combiner.now c.known.ensures c.args.value c.legs-legs.result.now c.values_of-all.result c.legs-legs.ensures c.values_of-all.ensures c.loop-i.i c.loop-i.values c.group.result.now c.odd_inward.result
    c.loop-i-test.false c.loop-i.auto.i-end c.loop-i.invariant c.group.ensures c.odd_inward.ensures
