use Rattle.std.proofs.Common.{arith}
use Rattle.qn_mpo.proofs.Lists.{after_next}
use Rattle.qn_mpo.proofs.factor.after.Goals as goal

pub loop-factor-preserved : goal.loop-factor-preserved
loop-factor-preserved c =
    after_next c.args.j c.args.factors.now c.loop-factor.factor-index c.factor-item.result c.loop-factor.out.items c.keep_after.new.out.items (omega arith) c.factor-item.is c.loop-factor.invariant c.in_ok-keep_after.ensures
