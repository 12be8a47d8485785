use Rattle.qn_index.proofs.Counts.{IsTables}
use Rattle.qn_index.proofs.table.tables_of.Given as goal

abbrev pub invariant-loop-i : goal.invariant-loop-i
invariant-loop-i g l = IsTables l.group l.legs l.i l.tables.items
