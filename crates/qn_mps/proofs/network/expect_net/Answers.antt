use Rattle.std.proofs.Common.{lit<}
use Rattle.std.proofs.lemmas.Result.{IfOk-weaker}
use Rattle.qn_mps.proofs.Room.{IsReady}
use Rattle.qn_mps.proofs.Brakets.{expect_ready, expect_value, expect_flux}
use Rattle.qn_mps.proofs.network.expect_net.Goals as goal

pub faultless_network-requires : goal.faultless_network-requires
faultless_network-requires g c =
    let r : IsReady c.group.result.now c.in_ok-members.members.items =
    expect_ready c.args.bra.now c.args.op.now c.args.ket.now c.known.ensures c.known-2.ensures c.known-3.ensures c.requires.bra c.requires.op c.requires.ket
    c.requires.groups.0 c.requires.groups.1 c.requires.sites.0 c.requires.sites.1 c.group.result.now c.group.ensures c.in_ok-members.members.items c.in_ok-members.ensures c.expect_faultless_law.ensures in
    (lit< tt, (lit< tt, (lit< tt, (r.some, (r.few, (r.members, r.faultless))))))

pub returns-clause-value : goal.returns-clause-value
returns-clause-value g c =
    IfOk-weaker c.faultless_network.result _ _
    (expect_value c.args.bra.now c.args.op.now c.args.ket.now c.known.ensures c.known-2.ensures c.known-3.ensures c.requires.bra c.requires.op c.requires.ket
    c.requires.groups.0 c.requires.groups.1 c.requires.sites.0 c.requires.sites.1 c.group.result.now c.group.ensures c.in_ok-members.members.items c.in_ok-members.ensures c.expect_network_law.ensures)
    c.faultless_network.ensures

pub returns-clause-flux : goal.returns-clause-flux
returns-clause-flux g c =
    IfOk-weaker c.faultless_network.result _ _
    (expect_flux c.args.bra.now c.args.op.now c.args.ket.now c.known.ensures c.known-2.ensures c.known-3.ensures c.requires.bra c.requires.op c.requires.ket
    c.requires.groups.0 c.requires.groups.1 c.requires.sites.0 c.requires.sites.1 c.group.result.now c.group.ensures c.in_ok-members.members.items c.in_ok-members.ensures c.expect_flux_law.ensures)
    c.faultless_network.ensures
