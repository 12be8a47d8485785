use Rattle.qn_sites.specs.Kinds.{kind_op}
use Rattle.qn_sites.specs.KindRows.{op_row}
use Rattle.qn_sites.proofs.KindFacts.{made_more}
use Rattle.qn_sites.proofs.kind.operators.Goals as goal

pub loop-op-preserved : goal.loop-op-preserved
loop-op-preserved g c =
    made_more (λ o. record { name = o.0; charge = o.1; entries = o.2.items }) (λ o. kind_op c.args.dim (op_row o)) c.loop-op.list.items c.push.new.self.items c.args.kind.now.ops.now c.loop-op.op-index _ _
    c.loop-op.invariant c.in_ok-push.ensures.items c.loop-op-test.true c.in_ok-operator.ensures
