use Rattle.qn_pair.proofs.Jobs.{priced}
use Rattle.qn_pair.proofs.job.Job.priced.Goals as goal

pub returns : goal.returns
returns g c = priced c.args.self.now c.tasks_within_cost.ensures.task c.tasks_within_cost.ensures.shares c.known.ensures.first c.known.ensures.second c.known.ensures.pair
