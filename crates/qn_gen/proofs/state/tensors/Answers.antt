use Rattle.qn_gen.proofs.DrawnChains.{made_more}
use Rattle.qn_gen.proofs.state.tensors.Goals as goal

pub loop-k-preserved : goal.loop-k-preserved
loop-k-preserved c =
    made_more c.args.draws.now.x c.args.count c.loop-k.k c.loop-k.draws.x c.tensor_at.new.draws.x c.loop-k.tensors.items c.push.new.self.items c.in_ok-tensor_at.field-0 c.loop-k.invariant c.loop-k-test.true c.in_ok-tensor_at.ensures.tensor c.in_ok-tensor_at.ensures.state c.in_ok-push.ensures.items
