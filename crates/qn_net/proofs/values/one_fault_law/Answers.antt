use Rattle.qn_net.proofs.OneFault.{one_fault}
use Rattle.qn_net.proofs.values.one_fault_law.Goals as goal

pub returns : goal.returns
returns c = one_fault
