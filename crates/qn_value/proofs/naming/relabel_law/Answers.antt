use Rattle.qn_value.proofs.Relabel
use Rattle.qn_value.proofs.naming.relabel_law.Goals as goal

pub returns : goal.returns
returns c = Relabel.relabel_law
