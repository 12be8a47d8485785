use Rattle.qn_value.proofs.Steps
use Rattle.qn_value.proofs.order.order_law.Goals as goal

pub returns : goal.returns
returns c = Steps.order_law
