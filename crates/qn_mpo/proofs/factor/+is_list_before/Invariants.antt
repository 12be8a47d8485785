use Rattle.std.proofs.Common.{length}
use Rattle.qn_mpo.proofs.factor.+is_list_before.Given as goal

abbrev pub decreases-is_list_before : goal.decreases-is_list_before
decreases-is_list_before l = length l.a.now
