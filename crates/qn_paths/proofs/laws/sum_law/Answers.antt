use Rattle.qn_paths.proofs.SumElements.{sum_elements, sum_expectations}
use Rattle.qn_paths.proofs.laws.sum_law.Goals as goal

pub returns-clause-elements : goal.returns-clause-elements
returns-clause-elements c = sum_elements

pub returns-clause-expectations : goal.returns-clause-expectations
returns-clause-expectations c = sum_expectations
