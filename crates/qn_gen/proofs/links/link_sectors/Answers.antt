use Rattle.std.proofs.Common.{arith, rules}
use Rattle.qn_gen.proofs.LinkSectors.{sectors_more}
use Rattle.qn_gen.proofs.links.link_sectors.Goals as goal

pub loop-charge-preserved : goal.loop-charge-preserved
loop-charge-preserved c = record {
  from = omega arith;
  sectors = sectors_more c.link_dim-dim.result c.least-charge.result c.loop-charge.charge c.loop-charge.sectors.items c.push.new.self.items (record { charge = c.new.result; dim = c.link_dim-dim.result }) c.loop-charge.invariant.from c.loop-charge.invariant.sectors (search rules) c.in_ok-push.ensures.items;
}
