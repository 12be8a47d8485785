use Rattle.qn_braket.proofs.Expect
use Rattle.qn_braket.proofs.brakets.expect_law.Goals as goal

pub returns : goal.returns
returns c = Expect.expect_law
