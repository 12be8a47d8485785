use Rattle.qn_paths.proofs.AutomatonChain.{automaton_element}
use Rattle.qn_paths.proofs.laws.automaton_law.Goals as goal

pub returns : goal.returns
returns c = automaton_element
