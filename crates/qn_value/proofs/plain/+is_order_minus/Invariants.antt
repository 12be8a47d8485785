use Rattle.std.proofs.Common.{length}
use Rattle.qn_value.proofs.plain.+is_order_minus.Given as goal

abbrev pub decreases-is_order_minus : goal.decreases-is_order_minus
decreases-is_order_minus l = length l.goal.now
