use Rattle.qn_gen.proofs.Draws.{draws_more, turned_more}
use Rattle.qn_gen.proofs.draw.Draws.take.Goals as goal

pub loop-preserved : goal.loop-preserved
loop-preserved c = record {
  values = draws_more c.args.self.now.x c.loop.self.x c.loop.counter c.next.result c.loop.numbers.items c.push.new.self.items c.loop.invariant.values c.loop.invariant.state c.next.ensures.value c.in_ok-push.ensures.items;
  state = turned_more c.args.self.now.x c.loop.self.x c.next.new.self.x c.loop.counter c.loop.invariant.state c.next.ensures.state;
}
