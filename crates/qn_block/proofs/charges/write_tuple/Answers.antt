use Rattle.std.proofs.Common.{arith, ap, length}
use Rattle.qn_block.proofs.Counted.{counted_more}
use Rattle.qn_block.proofs.charges.write_tuple.Goals as goal

pub loop-i-preserved : goal.loop-i-preserved
loop-i-preserved g c =
    (counted_more c.args.legs.now c.loop-i.i c.args.n c.loop-i.size c.loop-i.rest (length c.sectors.result.now) c.loop-i.tuple c.index-legs-i.result (omega arith) c.index-legs-i.is (ap length c.sectors.ensures) c.loop-i.invariant).next
