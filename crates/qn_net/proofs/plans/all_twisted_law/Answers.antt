use Rattle.qn_net.proofs.AllTwisted.{all_twisted}
use Rattle.qn_net.proofs.plans.all_twisted_law.Goals as goal

pub returns : goal.returns
returns c = all_twisted
