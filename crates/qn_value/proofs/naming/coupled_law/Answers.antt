use Rattle.qn_value.proofs.CoupledLemmas
use Rattle.qn_value.proofs.naming.coupled_law.Goals as goal

pub returns : goal.returns
returns c = CoupledLemmas.coupled_law
