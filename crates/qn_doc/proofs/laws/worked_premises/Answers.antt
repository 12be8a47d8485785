use Rattle.qn_doc.proofs.Worked.{printable, worked}
use Rattle.qn_doc.proofs.laws.worked_premises.Goals as goal

pub returns-clause-tensor : goal.returns-clause-tensor
returns-clause-tensor c = printable

pub returns-clause-network : goal.returns-clause-network
returns-clause-network c = worked
