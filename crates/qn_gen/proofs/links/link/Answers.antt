use Rattle.qn_gen.proofs.LinkSectors.{no_fault_of}
use Rattle.qn_gen.proofs.links.link.Goals as goal

pub unreachable-requires : goal.unreachable-requires
unreachable-requires c =
    no_fault_of c.args.count c.args.site c.in-Err.field-0 c.args.group.now c.in_ok-link_sectors.field-0.items c.requires.group c.in_ok-link_sectors.ensures c.requires.some c.requires.within c.requires.few c.in-Err.ensures.err
