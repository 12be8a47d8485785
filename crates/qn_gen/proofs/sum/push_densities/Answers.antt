use Rattle.qn_gen.proofs.Draws.{turned_more}
use Rattle.qn_gen.proofs.TermLists.{densities_more}
use Rattle.qn_gen.proofs.sum.push_densities.Goals as goal

pub loop-k-preserved : goal.loop-k-preserved
loop-k-preserved c = record {
  terms = densities_more c.args.draws.now.x c.loop-k.draws.x c.loop-k.k c.args.terms.now.items c.loop-k.terms.items c.push.new.self.items c.in_ok-density.field-0 c.next.result c.loop-k.invariant.terms c.loop-k.invariant.state c.next.ensures.value c.in_ok-density.ensures c.in_ok-push.ensures.items;
  state = turned_more c.args.draws.now.x c.loop-k.draws.x c.next.new.self.x c.loop-k.k c.loop-k.invariant.state c.next.ensures.state;
}
