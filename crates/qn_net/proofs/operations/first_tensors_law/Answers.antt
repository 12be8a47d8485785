use Rattle.qn_net.proofs.FirstTensors.{first_tensors}
use Rattle.qn_net.proofs.operations.first_tensors_law.Goals as goal

pub returns : goal.returns
returns c = first_tensors
