use Rattle.qn_fuse.proofs.Contracted.{fuse_contraction}
use Rattle.qn_fuse.proofs.laws.fuse_contraction_law.Goals as goal

pub returns : goal.returns
returns c = fuse_contraction
