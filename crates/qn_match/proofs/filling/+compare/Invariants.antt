use Rattle.std.proofs.Common.{length}
use Rattle.qn_match.proofs.filling.+compare.Given as goal

abbrev pub decreases-compare : goal.decreases-compare
decreases-compare l = length l.tuple.now
