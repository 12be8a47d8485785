use Rattle.std.proofs.lemmas.Result.{IfOk-weaker}
use Rattle.qn_cli.specs.Brakets.{pair_of}
use Rattle.qn_cli.proofs.ExpectNetworks.{built_network, built_flux}
use Rattle.qn_cli.proofs.expectations.expectation_net.Goals as goal

pub returns-clause-network : goal.returns-clause-network
returns-clause-network g c =
    IfOk-weaker c.expect_net.result _ _ (λ net. built_network (pair_of c.args.bra.now c.args.ket.now) c.args.sum.now c.args.op.now net c.known-2.ensures c.requires.built) c.expect_net.ensures.network

pub returns-clause-flux : goal.returns-clause-flux
returns-clause-flux g c =
    IfOk-weaker c.expect_net.result _ _
    (λ net. built_flux (pair_of c.args.bra.now c.args.ket.now) c.args.sum.now c.args.op.now net c.known.ensures c.requires.on c.known-2.ensures c.requires.built) c.expect_net.ensures.flux
