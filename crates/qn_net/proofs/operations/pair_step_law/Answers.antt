use Rattle.qn_net.proofs.StepLaws.{pair_step}
use Rattle.qn_net.proofs.operations.pair_step_law.Goals as goal

pub returns : goal.returns
returns c = pair_step
