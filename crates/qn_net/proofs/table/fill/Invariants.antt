use Rattle.std.proofs.Common.{take}
use Rattle.qn_net.specs.Tables.{IsFilled}
use Rattle.qn_net.proofs.table.fill.Given as goal

abbrev pub invariant-loop-i : goal.invariant-loop-i
invariant-loop-i l = IsFilled l.ends (take l.i l.ends) l.counts l.spots
