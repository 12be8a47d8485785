use Rattle.std.proofs.Common.{lit<}
use Rattle.qn_block.proofs.Firsts.{tuple_read}
use Rattle.qn_block.proofs.checks.first_off_flux.Goals as goal

pub net_charge-requires : goal.net_charge-requires
net_charge-requires g c =
    (lit< tt, (lit< tt, (lit< tt, (c.requires.few, (c.requires.group, tuple_read c.args.legs.now c.args.blocks.now c.loop-block.block c.index-blocks-block.result c.tuple.result.now c.requires.tuples c.loop-block-test.true c.index-blocks-block.is c.tuple.ensures)))))
