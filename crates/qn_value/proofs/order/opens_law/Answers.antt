use Rattle.qn_value.proofs.OrderLaws
use Rattle.qn_value.proofs.order.opens_law.Goals as goal

pub returns : goal.returns
returns c = OrderLaws.opens_law
