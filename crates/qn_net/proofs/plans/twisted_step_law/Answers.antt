use Rattle.qn_net.proofs.PlanTwist.{untwisted}
use Rattle.qn_net.proofs.plans.twisted_step_law.Goals as goal

pub returns : goal.returns
returns c = untwisted
