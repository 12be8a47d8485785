use Rattle.std.proofs.Common.{◌≡◌}
use Rattle.qn_match.proofs.LeftSizes.{left_from}
use Rattle.qn_match.proofs.counting.left_size.Given as goal

abbrev pub invariant-loop-i : goal.invariant-loop-i
invariant-loop-i g l = l.size ≡ left_from l.marks l.legs l.tuple l.i
