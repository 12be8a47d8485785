use Rattle.qn_braket.proofs.WorkedChains.{is_state, is_turned, is_operator, are_conjugates}
use Rattle.qn_braket.proofs.examples.worked_premises.Goals as goal

pub returns-clause-state : goal.returns-clause-state
returns-clause-state c = is_state

pub returns-clause-turned : goal.returns-clause-turned
returns-clause-turned c = is_turned

pub returns-clause-operator : goal.returns-clause-operator
returns-clause-operator c = is_operator

pub returns-clause-conjugates : goal.returns-clause-conjugates
returns-clause-conjugates c = are_conjugates
