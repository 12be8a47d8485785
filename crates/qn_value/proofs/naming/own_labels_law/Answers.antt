use Rattle.qn_value.proofs.LocalLaw
use Rattle.qn_value.proofs.naming.own_labels_law.Goals as goal

pub returns : goal.returns
returns c = LocalLaw.local_law
