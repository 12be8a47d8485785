use Rattle.qn_net.proofs.FuseLaws.{fuse_step}
use Rattle.qn_net.proofs.fusing.fuse_step_law.Goals as goal

pub returns : goal.returns
returns c = fuse_step
