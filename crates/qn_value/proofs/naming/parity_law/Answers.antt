use Rattle.qn_value.proofs.Steps
use Rattle.qn_value.proofs.naming.parity_law.Goals as goal

pub returns : goal.returns
returns c = Steps.parity_law
