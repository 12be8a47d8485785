use Rattle.qn_value.proofs.ExampleLemmas.{is_tensor, has_blocks, is_coupling, is_placed, is_uniform, is_network}
use Rattle.qn_value.proofs.examples.worked_premises.Goals as goal

pub returns-clause-tensor : goal.returns-clause-tensor
returns-clause-tensor c = is_tensor

pub returns-clause-blocks : goal.returns-clause-blocks
returns-clause-blocks c = has_blocks

pub returns-clause-coupling : goal.returns-clause-coupling
returns-clause-coupling c = is_coupling

pub returns-clause-placed : goal.returns-clause-placed
returns-clause-placed c = is_placed

pub returns-clause-uniform : goal.returns-clause-uniform
returns-clause-uniform c = is_uniform

pub returns-clause-network : goal.returns-clause-network
returns-clause-network c = is_network
