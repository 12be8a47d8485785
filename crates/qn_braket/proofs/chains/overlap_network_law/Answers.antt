use Rattle.qn_braket.proofs.ListValues.{overlap_network_value}
use Rattle.qn_braket.proofs.chains.overlap_network_law.Goals as goal

pub returns : goal.returns
returns c = overlap_network_value
