use Rattle.qn_mps.proofs.SameMembers.{same_expect}
use Rattle.qn_mps.proofs.laws.same_expect_law.Goals as goal

pub returns : goal.returns
returns c = same_expect
