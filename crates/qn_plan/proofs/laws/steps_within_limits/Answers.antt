use Rattle.qn_plan.proofs.StepsFit.{within_limits, pairs_within}
use Rattle.qn_plan.proofs.laws.steps_within_limits.Goals as goal

pub returns-clause-groups : goal.returns-clause-groups
returns-clause-groups c = within_limits c.first_tensors_law.ensures c.network_value_law.ensures c.member_law.ensures

pub returns-clause-pairs : goal.returns-clause-pairs
returns-clause-pairs c = pairs_within c.first_tensors_law.ensures c.network_value_law.ensures c.member_law.ensures c.legs_left_are_open.ensures
