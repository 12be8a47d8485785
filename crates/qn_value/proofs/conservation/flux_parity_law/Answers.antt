use Rattle.qn_value.proofs.FluxLemmas.{conserved_homogeneous}
use Rattle.qn_value.proofs.conservation.flux_parity_law.Goals as goal

pub returns : goal.returns
returns c fs charge n flux group h o = conserved_homogeneous fs group charge n flux h o
