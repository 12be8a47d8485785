use Rattle.std.proofs.Common.{length}
use Rattle.qn_strides.proofs.places.+is_coupled.Given as goal

abbrev pub decreases-is_coupled : goal.decreases-is_coupled
decreases-is_coupled l = length l.couples.now
