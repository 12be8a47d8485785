use Rattle.qn_net.proofs.StepLaws.{trace_step}
use Rattle.qn_net.proofs.operations.trace_step_law.Goals as goal

pub returns : goal.returns
returns c = trace_step
