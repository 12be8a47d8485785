use Rattle.qn_value.proofs.BoundsLemmas.{contract_bounded}
use Rattle.qn_value.proofs.conservation.bounds_law.Goals as goal

pub returns : goal.returns
returns c = contract_bounded
