use Rattle.qn_value.proofs.MagnitudeLemmas.{first_kept}
use Rattle.qn_value.proofs.passing.first_passing_law.Goals as goal

pub returns : goal.returns
returns c = first_kept
