use Rattle.qn_value.proofs.NamesLemmas.{names_map}
use Rattle.qn_value.proofs.naming.names_law.Goals as goal

pub returns : goal.returns
returns c = names_map
