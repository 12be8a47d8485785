use Rattle.qn_doc.proofs.NetworksBack.{networks_read_back}
use Rattle.qn_doc.proofs.WholeNetworks.{text_reads_back}
use Rattle.qn_doc.proofs.laws.networks_read_back.Goals as goal

pub returns-clause-tree : goal.returns-clause-tree
returns-clause-tree c = networks_read_back

pub returns-clause-text : goal.returns-clause-text
returns-clause-text c = text_reads_back
