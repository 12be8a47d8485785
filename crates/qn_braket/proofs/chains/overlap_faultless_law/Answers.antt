use Rattle.qn_braket.proofs.ChainLabelled.{overlap_faultless}
use Rattle.qn_braket.proofs.chains.overlap_faultless_law.Goals as goal

pub returns : goal.returns
returns c = overlap_faultless
