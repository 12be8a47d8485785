use Rattle.qn_braket.proofs.ChainFlux.{overlap_flux}
use Rattle.qn_braket.proofs.chains.overlap_flux_law.Goals as goal

pub returns : goal.returns
returns c = overlap_flux
