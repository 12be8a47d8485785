use Rattle.std.proofs.Common.{lit<, drop}
use Rattle.qn_mpo.specs.States.{charges}
use Rattle.qn_mpo.proofs.Links.{dims_fit, few_left}
use Rattle.qn_mpo.proofs.link.sectors_of.Goals as goal

pub add_value-requires : goal.add_value-requires
add_value-requires g c =
    (lit< tt, (lit< tt, dims_fit (charges (drop c.loop-i.i c.args.states.now)) c.loop-i.sectors.items (few_left c.args.states.now c.loop-i.i c.requires) c.loop-i.invariant))
