use Rattle.std.proofs.Common.{length}
use Rattle.qn_value.proofs.plain.+is_passed_oddly.Given as goal

abbrev pub decreases-is_passed_oddly : goal.decreases-is_passed_oddly
decreases-is_passed_oddly l = length l.later.now
