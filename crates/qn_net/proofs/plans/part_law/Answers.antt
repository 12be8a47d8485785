use Rattle.qn_net.specs.Steps.{carry}
use Rattle.qn_net.proofs.PlanTwist.{steps_sound, parts_of}
use Rattle.qn_net.proofs.plans.part_law.Goals as goal

pub returns : goal.returns
returns c par opens ts us s k = parts_of par opens us (carry par ts s) (steps_sound par opens ts us s k)
