use Rattle.qn_fuse.proofs.Alike.{fuse_after_split}
use Rattle.qn_fuse.proofs.laws.fuse_after_split_law.Goals as goal

pub returns : goal.returns
returns c = fuse_after_split
