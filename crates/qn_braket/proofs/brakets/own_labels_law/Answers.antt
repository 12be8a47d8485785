use Rattle.qn_braket.proofs.OperatorSign.{own_apart}
use Rattle.qn_braket.proofs.brakets.own_labels_law.Goals as goal

pub returns : goal.returns
returns c = own_apart
