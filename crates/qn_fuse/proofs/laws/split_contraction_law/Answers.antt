use Rattle.qn_fuse.proofs.Contracted.{split_contraction}
use Rattle.qn_fuse.proofs.laws.split_contraction_law.Goals as goal

pub returns : goal.returns
returns c = split_contraction
