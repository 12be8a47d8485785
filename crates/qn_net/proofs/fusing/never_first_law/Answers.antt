use Rattle.qn_net.proofs.NeverFirst.{never_first}
use Rattle.qn_net.proofs.fusing.never_first_law.Goals as goal

pub returns : goal.returns
returns c = never_first
