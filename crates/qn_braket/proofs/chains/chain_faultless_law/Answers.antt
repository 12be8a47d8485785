use Rattle.qn_braket.proofs.ChainLabelled.{chain_faultless}
use Rattle.qn_braket.proofs.chains.chain_faultless_law.Goals as goal

pub returns : goal.returns
returns c = chain_faultless
