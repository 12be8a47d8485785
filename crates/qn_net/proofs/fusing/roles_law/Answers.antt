use Rattle.qn_net.proofs.FuseLaws.{roles}
use Rattle.qn_net.proofs.fusing.roles_law.Goals as goal

pub returns : goal.returns
returns c = roles
