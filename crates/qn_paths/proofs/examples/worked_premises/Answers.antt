use Rattle.qn_paths.proofs.WorkedSums.{is_sum, is_automaton, is_chain, parities, below, lines}
use Rattle.qn_paths.proofs.examples.worked_premises.Goals as goal

pub returns-clause-sum : goal.returns-clause-sum
returns-clause-sum c = is_sum

pub returns-clause-automaton : goal.returns-clause-automaton
returns-clause-automaton c = is_automaton

pub returns-clause-chain : goal.returns-clause-chain
returns-clause-chain c = is_chain

pub returns-clause-parities : goal.returns-clause-parities
returns-clause-parities c = parities

pub returns-clause-below : goal.returns-clause-below
returns-clause-below c = below

pub returns-clause-lines : goal.returns-clause-lines
returns-clause-lines c = lines
