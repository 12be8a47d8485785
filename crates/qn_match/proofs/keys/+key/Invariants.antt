use Rattle.std.proofs.Common.{length}
use Rattle.qn_match.proofs.keys.+key.Given as goal

abbrev pub decreases-key : goal.decreases-key
decreases-key l = length l.places.now
