use Rattle.qn_braket.proofs.ListValues.{elements}
use Rattle.qn_braket.proofs.chains.elements_law.Goals as goal

pub returns : goal.returns
returns c = elements
