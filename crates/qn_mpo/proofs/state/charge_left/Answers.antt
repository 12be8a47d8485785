use Rattle.std.proofs.Common.{lit<}
use Rattle.qn_mpo.proofs.Charges.{left_fits}
use Rattle.qn_mpo.proofs.state.charge_left.Goals as goal

pub difference-requires : goal.difference-requires
difference-requires g c =
    (lit< tt, (lit< tt, left_fits c.args.sum.now c.known.ensures c.args.rest.now c.requires c.group.result.now c.flux.result.now c.charge_of-later.result c.group.ensures c.flux.ensures c.charge_of-later.ensures))
