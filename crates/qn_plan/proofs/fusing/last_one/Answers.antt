use Rattle.qn_plan.proofs.LastLabel.{last_is}
use Rattle.qn_plan.proofs.fusing.last_one.Goals as goal

pub returns-in-len1-up : goal.returns-in-len1-up
returns-in-len1-up c = last_is c.args.labels.now c.in-len1-up.len_at_least
