use Rattle.qn_braket.proofs.Conjugate.{conj_network, conj_value}
use Rattle.qn_braket.proofs.brakets.conj_law.Goals as goal

pub returns : goal.returns
returns c = λ par ns bs opens net. (conj_network ns bs opens net, conj_value ns bs opens net par)
