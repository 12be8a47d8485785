use Rattle.qn_doc.proofs.TensorsBack.{reads_back, text_reads_back}
use Rattle.qn_doc.proofs.laws.tensors_read_back.Goals as goal

pub returns-clause-tree : goal.returns-clause-tree
returns-clause-tree c = reads_back

pub returns-clause-text : goal.returns-clause-text
returns-clause-text c = text_reads_back
