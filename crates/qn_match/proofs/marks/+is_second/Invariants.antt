use Rattle.std.proofs.Common.{length}
use Rattle.qn_match.proofs.marks.+is_second.Given as goal

abbrev pub decreases-is_second : goal.decreases-is_second
decreases-is_second l = length l.shared.now
