use Rattle.qn_value.proofs.MagnitudeLemmas.{single}
use Rattle.qn_value.proofs.passing.single_law.Goals as goal

pub returns : goal.returns
returns c = single
