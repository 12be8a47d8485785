use Rattle.qn_gen.proofs.TermLists.{sites_more}
use Rattle.qn_gen.proofs.sum.sites.Goals as goal

pub loop-preserved : goal.loop-preserved
loop-preserved c = sites_more c.loop.counter c.loop.sites.items c.push.new.self.items c.in_ok-fermion_site.field-0 c.loop.invariant c.in_ok-fermion_site.ensures c.in_ok-push.ensures.items
