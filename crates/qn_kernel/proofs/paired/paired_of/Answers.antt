use Rattle.std.proofs.Common.{rules, get_or}
use Rattle.qn_kernel.proofs.Axes.{paired_more}
use Rattle.qn_kernel.proofs.paired.paired_of.Goals as goal

pub loop-pair-preserved : goal.loop-pair-preserved
loop-pair-preserved g c =
    search (rules, paired_more c.args.legs.now c.args.tuple.now c.args.firsts.now c.args.seconds.now c.args.shared.now c.loop-pair.pair-index (get_or c.args.shared.now c.loop-pair.pair-index (0, 0)) c.loop-pair.axes.items c.paired_at.result c.loop-pair-test.true)
