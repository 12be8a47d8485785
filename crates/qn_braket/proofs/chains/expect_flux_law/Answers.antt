use Rattle.qn_braket.proofs.ChainFlux.{expect_flux}
use Rattle.qn_braket.proofs.chains.expect_flux_law.Goals as goal

pub returns : goal.returns
returns c = expect_flux
