use Rattle.qn_value.proofs.LabelLemmas.{plain_network}
use Rattle.qn_value.proofs.naming.labels_law.Goals as goal

pub returns : goal.returns
returns c = plain_network
