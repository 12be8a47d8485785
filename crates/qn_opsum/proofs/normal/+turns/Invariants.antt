use Rattle.std.proofs.Common.{length}
use Rattle.qn_opsum.proofs.normal.+turns.Given as goal

abbrev pub decreases-turns : goal.decreases-turns
decreases-turns l = length l.marks.now
