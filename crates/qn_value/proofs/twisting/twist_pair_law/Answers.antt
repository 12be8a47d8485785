use Rattle.qn_value.proofs.TwistLemmas
use Rattle.qn_value.proofs.twisting.twist_pair_law.Goals as goal

pub returns : goal.returns
returns c = TwistLemmas.twist_pair_law
