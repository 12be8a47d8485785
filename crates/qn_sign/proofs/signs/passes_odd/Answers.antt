use Rattle.std.proofs.Common.{◌&&◌, nat_lt}
use Rattle.qn_sign.specs.Positions.{is_odd_at}
use Rattle.qn_sign.proofs.Positions.{block_parity_more}
use Rattle.qn_sign.proofs.signs.passes_odd.Goals as goal

pub loop-other-preserved : goal.loop-other-preserved
loop-other-preserved c =
    block_parity_more (λ k. is_odd_at c.args.odd.now k && nat_lt k c.args.position) c.args.later.now c.loop-other.other-index 0
    c.loop-other.passes c.is_odd_before-passes.result c.loop-other-test.true c.loop-other.invariant c.is_odd_before-passes.ensures.value
