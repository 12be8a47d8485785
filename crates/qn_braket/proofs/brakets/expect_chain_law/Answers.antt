use Rattle.qn_braket.proofs.ExpectNet.{expect_net_value}
use Rattle.qn_braket.proofs.brakets.expect_chain_law.Goals as goal

pub returns : goal.returns
returns c = λ par dim bra op ket m. expect_net_value dim bra op ket m par
