use Rattle.std.proofs.Common.{length}
use Rattle.qn_value.proofs.plain.+is_twisted_minus.Given as goal

abbrev pub decreases-is_twisted_minus : goal.decreases-is_twisted_minus
decreases-is_twisted_minus l = length l.bonds.now
