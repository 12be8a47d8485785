use Rattle.std.proofs.Common.{length}
use Rattle.qn_tensor_tests.proofs.tracing.+are_apart.Given as goal

abbrev pub decreases-are_apart : goal.decreases-are_apart
decreases-are_apart l = length l.couples.now
