use Rattle.std.proofs.Common.{rules, subst, sym}
use Rattle.qn_strides.proofs.Striding.{AreSummed, axes_first, axes_more}
use Rattle.qn_strides.proofs.plan.summed_of.Goals as goal

pub loop-couple-init : goal.loop-couple-init
loop-couple-init g c = subst (AreSummed c.args.legs.now c.args.tuple.now c.args.couples.now 0) (sym c.new-axes.ensures.items) (axes_first c.args.legs.now c.args.tuple.now c.args.couples.now)

pub loop-couple-preserved : goal.loop-couple-preserved
loop-couple-preserved g c =
    search (rules, axes_more c.args.legs.now c.args.tuple.now c.args.couples.now c.loop-couple.couple-index (0, 0) c.loop-couple.axes.items c.summed_pair.result c.loop-couple-test.true c.loop-couple.invariant c.summed_pair.ensures.len c.summed_pair.ensures.stride c.summed_pair.ensures.small)
