use Rattle.std.proofs.Common.{◌∙◌, ap}
use Rattle.qn_corr.specs.Correlators.{expectation_of}
use Rattle.qn_corr.proofs.Values.{value_is}
use Rattle.qn_corr.proofs.corr.Corr.value.Goals as goal

pub returns : goal.returns
returns g c =
    value_is c.expect_network_law.ensures c.self.inside.chains c.self.inside.plan.items c.self.inside.kept.items c.self.inside.value c.self.invariant c.known.ensures.bra c.known.ensures.op c.known.ensures.ket
    ∙ ap expectation_of c.self.view_is
