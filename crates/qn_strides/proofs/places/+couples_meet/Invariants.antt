use Rattle.std.proofs.Common.{length}
use Rattle.qn_strides.proofs.places.+couples_meet.Given as goal

abbrev pub decreases-couples_meet : goal.decreases-couples_meet
decreases-couples_meet l = length l.couples.now
