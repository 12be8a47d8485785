use Rattle.qn_net.proofs.LastTensor.{last_tensor}
use Rattle.qn_net.proofs.operations.last_tensor_law.Goals as goal

pub returns : goal.returns
returns c = last_tensor
