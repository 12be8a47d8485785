use Rattle.std.proofs.Common.{length}
use Rattle.qn_tensor_tests.proofs.permuting.+stands_in.Given as goal

abbrev pub decreases-stands_in : goal.decreases-stands_in
decreases-stands_in l = length l.list.now
