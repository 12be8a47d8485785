use Rattle.qn_net.proofs.WellFormed.{well_formed}
use Rattle.qn_net.proofs.values.well_formed_law.Goals as goal

pub returns : goal.returns
returns c = well_formed
