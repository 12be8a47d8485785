use Rattle.qn_value.proofs.MagnitudeLemmas.{value_within}
use Rattle.qn_value.proofs.passing.magnitude_law.Goals as goal

pub returns : goal.returns
returns c = value_within
