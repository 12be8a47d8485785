use Rattle.std.proofs.Common.{lit<, subst}
use Rattle.std.specs.Prelude.{IfOk}
use Rattle.qn_corr.specs.Correlators.{CorrValue, IsNetworkOf}
use Rattle.qn_corr.proofs.chains.Chains.network.Goals as goal

pub expect_net-requires : goal.expect_net-requires
expect_net-requires g c =
    let m = c.self.invariant in (lit< tt, (lit< tt, (m.bra_kind, (m.op_kind, (m.ket_kind, (m.groups, m.sites))))))

pub returns : goal.returns
returns g c = subst (λ (d : CorrValue). IfOk c.expect_net.result (IsNetworkOf d)) c.self.view_is c.expect_net.ensures.network
