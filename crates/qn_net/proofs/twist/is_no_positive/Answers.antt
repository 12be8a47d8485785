use Rattle.std.proofs.Common.{refl}
use Rattle.qn_net.proofs.OrderLemmas.{no_positive}
use Rattle.qn_net.proofs.twist.is_no_positive.Goals as goal

pub returns-in-None : goal.returns-in-None
returns-in-None c = ((λ _. no_positive c.args.table.now c.known.ensures c.args.label.now c.in-None.ensures), (λ _. refl))
