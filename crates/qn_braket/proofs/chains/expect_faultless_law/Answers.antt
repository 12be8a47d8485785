use Rattle.qn_braket.proofs.ChainLabelled.{expect_faultless}
use Rattle.qn_braket.proofs.chains.expect_faultless_law.Goals as goal

pub returns : goal.returns
returns c = expect_faultless
