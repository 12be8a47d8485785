use Rattle.std.proofs.Common.{length}
use Rattle.qn_value.proofs.plain.+number_of_summands.Given as goal

abbrev pub decreases-number_of_summands : goal.decreases-number_of_summands
decreases-number_of_summands l = length l.bonds.now
