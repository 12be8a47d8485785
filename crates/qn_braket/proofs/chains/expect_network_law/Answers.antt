use Rattle.qn_braket.proofs.ListValues.{expect_network_value}
use Rattle.qn_braket.proofs.chains.expect_network_law.Goals as goal

pub returns : goal.returns
returns c = expect_network_value
