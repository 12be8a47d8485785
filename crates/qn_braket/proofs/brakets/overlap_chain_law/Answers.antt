use Rattle.qn_braket.proofs.OverlapNet.{overlap_net_value}
use Rattle.qn_braket.proofs.brakets.overlap_chain_law.Goals as goal

pub returns : goal.returns
returns c = λ par dim bra ket m. overlap_net_value dim bra ket m par
