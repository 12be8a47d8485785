use Rattle.std.proofs.Common.{length}
use Rattle.qn_value.proofs.plain.+value_in_summand.Given as goal

abbrev pub decreases-value_in_summand : goal.decreases-value_in_summand
decreases-value_in_summand l = length l.bonds.now
