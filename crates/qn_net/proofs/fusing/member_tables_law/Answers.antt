use Rattle.qn_net.proofs.NeverFirst.{member_tables}
use Rattle.qn_net.proofs.fusing.member_tables_law.Goals as goal

pub returns : goal.returns
returns c = member_tables
