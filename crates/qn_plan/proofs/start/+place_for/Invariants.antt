use Rattle.std.proofs.Common.{length}
use Rattle.qn_plan.proofs.start.+place_for.Given as goal

abbrev pub decreases-place_for : goal.decreases-place_for
decreases-place_for l = length l.sorted.now
