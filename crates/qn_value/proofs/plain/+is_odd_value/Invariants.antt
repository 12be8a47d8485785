use Rattle.std.proofs.Common.{length}
use Rattle.qn_value.proofs.plain.+is_odd_value.Given as goal

abbrev pub decreases-is_odd_value : goal.decreases-is_odd_value
decreases-is_odd_value l = length l.parities.now
