use Rattle.qn_net.proofs.NetworkLemmas.{network_passing}
use Rattle.qn_net.proofs.values.network_passing_law.Goals as goal

pub returns : goal.returns
returns c = network_passing
