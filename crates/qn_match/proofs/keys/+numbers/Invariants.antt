use Rattle.std.proofs.Common.{length}
use Rattle.qn_match.proofs.keys.+numbers.Given as goal

abbrev pub decreases-numbers : goal.decreases-numbers
decreases-numbers l = length l.bases.now
