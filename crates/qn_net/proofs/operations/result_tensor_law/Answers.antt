use Rattle.qn_net.proofs.ResultTensors.{result_tensor}
use Rattle.qn_net.proofs.operations.result_tensor_law.Goals as goal

pub returns : goal.returns
returns c = result_tensor
