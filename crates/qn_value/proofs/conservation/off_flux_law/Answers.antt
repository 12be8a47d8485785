use Rattle.qn_value.proofs.OpenLegs
use Rattle.qn_value.proofs.conservation.off_flux_law.Goals as goal

pub returns : goal.returns
returns c = OpenLegs.off_flux
