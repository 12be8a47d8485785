use Rattle.qn_net.proofs.StepLaws.{lines_law}
use Rattle.qn_net.proofs.operations.lines_law.Goals as goal

pub returns : goal.returns
returns c = lines_law
