use Rattle.std.proofs.Common.{refl}
use Rattle.qn_net.proofs.network.checked_table.Goals as goal

pub returns-clause-labelled : goal.returns-clause-labelled
returns-clause-labelled g c = c.in-None-line_fault.ensures.none refl
