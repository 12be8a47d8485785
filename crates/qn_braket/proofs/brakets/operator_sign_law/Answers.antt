use Rattle.qn_braket.proofs.OperatorSign.{operator_sign}
use Rattle.qn_braket.proofs.brakets.operator_sign_law.Goals as goal

pub returns : goal.returns
returns c = operator_sign
