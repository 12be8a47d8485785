use Rattle.std.proofs.Common.{length}
use Rattle.qn_value.proofs.plain.+open_value.Given as goal

abbrev pub decreases-open_value : goal.decreases-open_value
decreases-open_value l = length l.opens.now
