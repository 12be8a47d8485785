use Rattle.qn_net.proofs.PlainSteps.{plain_step_law}
use Rattle.qn_net.proofs.plans.plain_step_law.Goals as goal

pub returns : goal.returns
returns c = plain_step_law
