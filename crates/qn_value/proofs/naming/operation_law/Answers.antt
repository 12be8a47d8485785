use Rattle.qn_value.proofs.OperationLaw
use Rattle.qn_value.proofs.naming.operation_law.Goals as goal

pub returns : goal.returns
returns c = OperationLaw.operation_law
