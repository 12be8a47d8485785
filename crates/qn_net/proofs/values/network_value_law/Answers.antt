use Rattle.qn_net.proofs.NetworkLemmas.{network_value}
use Rattle.qn_net.proofs.values.network_value_law.Goals as goal

pub returns : goal.returns
returns c = network_value
