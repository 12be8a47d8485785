use Rattle.std.proofs.Common.{length}
use Rattle.qn_opsum.proofs.normal.+passes.Given as goal

abbrev pub decreases-passes : goal.decreases-passes
decreases-passes l = length l.marks.now
