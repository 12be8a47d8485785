use Rattle.std.proofs.Common.{lit<}
use Rattle.qn_mps.proofs.Room.{IsReady}
use Rattle.qn_mps.proofs.Brakets.{chain_ready}
use Rattle.qn_mps.proofs.chain.Chain.network.Goals as goal

pub faultless_network-requires : goal.faultless_network-requires
faultless_network-requires g c =
    let r : IsReady c.group.result.now c.in_ok-members.members.items =
    chain_ready c.chain_faultless_law.ensures c.args.self.now c.known.ensures c.group.result.now c.group.ensures c.in_ok-members.members.items c.in_ok-members.ensures in
    (lit< tt, (lit< tt, (lit< tt, (r.some, (r.few, (r.members, r.faultless))))))
