use Rattle.qn_fuse.proofs.Alike.{split_after_fuse}
use Rattle.qn_fuse.proofs.laws.split_after_fuse_law.Goals as goal

pub returns : goal.returns
returns c = split_after_fuse
