use Rattle.qn_net.proofs.WorkedPremises.{well_formed, lines, couples, pairs, table, turned_table}
use Rattle.qn_net.proofs.examples.worked_premises.Goals as goal

pub returns-clause-well_formed : goal.returns-clause-well_formed
returns-clause-well_formed c = well_formed

pub returns-clause-lines : goal.returns-clause-lines
returns-clause-lines c = lines

pub returns-clause-couples : goal.returns-clause-couples
returns-clause-couples c = couples

pub returns-clause-pairs : goal.returns-clause-pairs
returns-clause-pairs c = pairs

pub returns-clause-table : goal.returns-clause-table
returns-clause-table c = table

pub returns-clause-turned_table : goal.returns-clause-turned_table
returns-clause-turned_table c = turned_table
