use Rattle.qn_net.proofs.PlanFind.{taken_none, taken_trace, taken_pair}
use Rattle.qn_net.proofs.plans.taken_law.Goals as goal

pub returns : goal.returns
returns c l left = (taken_none l left, taken_trace l left, taken_pair l left)
