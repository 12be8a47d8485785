use Rattle.std.proofs.Common.{lit<}
use Rattle.qn_opsum.proofs.Lookups.{good_at}
use Rattle.qn_opsum.proofs.normal.marks_of.Goals as goal

pub operator-requires : goal.operator-requires
operator-requires g c =
    let good = good_at c.args.sites.now c.args.factors.now c.loop-i.i c.index-factors-i.result c.requires.good c.loop-i-test.true c.index-factors-i.is in
    (lit< tt, (lit< tt, (c.requires.sites.sites, (good.0, (good.1, good.2)))))
