use Rattle.qn_net.proofs.FirstSteps.{first_steps}
use Rattle.qn_net.proofs.passing.first_steps_law.Goals as goal

pub returns : goal.returns
returns c = first_steps
