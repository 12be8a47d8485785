use Rattle.std.proofs.Common.{lit<, ◌∙◌}
use Rattle.qn_mpo.proofs.Chained.{chain_ready}
use Rattle.qn_mpo.proofs.chain.chain_of.Goals as goal

pub operator-requires : goal.operator-requires
operator-requires g c =
    let r = chain_ready c.args.sum.now c.known.ensures c.args.tensors.items c.requires.count c.requires.shapes c.group.result.now c.deref.result.now c.group.ensures (c.deref.ensures.value ∙ c.in_ok-legs.ensures) in
    (lit< tt, (lit< tt, (lit< tt, (lit< tt, (r.some, (r.few, (r.outward, (r.groups, r.fluxes))))))))
