use Rattle.qn_value.proofs.Steps
use Rattle.qn_value.proofs.order.final_law.Goals as goal

pub returns : goal.returns
returns c = Steps.final_law
