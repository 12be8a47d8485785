use Rattle.qn_net.proofs.OneFault.{no_fault}
use Rattle.qn_net.proofs.values.no_fault_law.Goals as goal

pub returns : goal.returns
returns c = no_fault
