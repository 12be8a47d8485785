use Rattle.std.proofs.Common.{arith, ◌<◌, length}
use Rattle.qn_lazy.specs.declared.lazy_rule.LazyRule.TheVariants.{Identity}
use Rattle.qn_lazy.proofs.Sequences.{before_next}
use Rattle.qn_lazy.proofs.rules.apply_rules.Goals as goal

pub loop-i-preserved : goal.loop-i-preserved
loop-i-preserved g c =
    let lt : c.loop-i.i < length c.args.rules.now = omega (arith, c.loop-i-test.true) in
    before_next c.args.first c.args.t c.loop-i.t c.in-Ok.next c.args.rules.now c.loop-i.i c.args.steps.now c.loop-i.steps c.applied.new.steps c.args.asks.now c.loop-i.asks c.applied.new.asks (Identity 0)
    c.loop-i.invariant lt c.in-Ok.ensures.value c.in-Ok.ensures.clear c.in-Ok.ensures.steps c.in-Ok.ensures.asks
