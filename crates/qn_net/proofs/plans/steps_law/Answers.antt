use Rattle.qn_net.proofs.PlanTwist.{steps_sound, steps_carry}
use Rattle.qn_net.proofs.plans.steps_law.Goals as goal

pub returns : goal.returns
returns c par opens ts us s k = (steps_sound par opens ts us s k, steps_carry par ts us s)
