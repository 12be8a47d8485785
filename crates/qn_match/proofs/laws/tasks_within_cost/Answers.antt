use Rattle.qn_match.proofs.Sharing.{task_law, shares_law}
use Rattle.qn_match.proofs.laws.tasks_within_cost.Goals as goal

pub returns-clause-task : goal.returns-clause-task
returns-clause-task c = task_law

pub returns-clause-shares : goal.returns-clause-shares
returns-clause-shares c = shares_law
