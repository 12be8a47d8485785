use Rattle.qn_value.proofs.TwistLemmas
use Rattle.qn_value.proofs.twisting.twist_second_law.Goals as goal

pub returns : goal.returns
returns c = TwistLemmas.twist_second_law
