use Rattle.std.proofs.Common.{length}
use Rattle.qn_value.proofs.plain.+entry_in_summand.Given as goal

abbrev pub decreases-entry_in_summand : goal.decreases-entry_in_summand
decreases-entry_in_summand l = length l.rows.now
