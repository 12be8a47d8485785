use Rattle.qn_value.proofs.TwistLemmas
use Rattle.qn_value.proofs.twisting.twist_law.Goals as goal

pub returns : goal.returns
returns c par pre x post bonds opens test dx db one = TwistLemmas.twist_law par pre x post bonds opens test dx db one
