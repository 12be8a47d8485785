use Rattle.qn_net.proofs.FuseLaws.{fuse_entry_law}
use Rattle.qn_net.proofs.fusing.fuse_entry_law.Goals as goal

pub returns : goal.returns
returns c = fuse_entry_law
