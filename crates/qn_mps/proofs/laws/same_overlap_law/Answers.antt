use Rattle.qn_mps.proofs.SameMembers.{same_overlap}
use Rattle.qn_mps.proofs.laws.same_overlap_law.Goals as goal

pub returns : goal.returns
returns c = same_overlap
