use Rattle.qn_paths.proofs.WorkedSums.{hop_1, turned_1, far_1, passed_1, turned_network, passed_network}
use Rattle.qn_paths.proofs.examples.worked_examples.Goals as goal

pub returns-clause-hop : goal.returns-clause-hop
returns-clause-hop c = hop_1

pub returns-clause-turned : goal.returns-clause-turned
returns-clause-turned c = turned_1

pub returns-clause-far : goal.returns-clause-far
returns-clause-far c = far_1

pub returns-clause-passed : goal.returns-clause-passed
returns-clause-passed c = passed_1

pub returns-clause-turned_network : goal.returns-clause-turned_network
returns-clause-turned_network c = turned_network

pub returns-clause-passed_network : goal.returns-clause-passed_network
returns-clause-passed_network c = passed_network
