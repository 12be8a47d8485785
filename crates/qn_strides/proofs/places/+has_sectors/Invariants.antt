use Rattle.std.proofs.Common.{length}
use Rattle.qn_strides.proofs.places.+has_sectors.Given as goal

abbrev pub decreases-has_sectors : goal.decreases-has_sectors
decreases-has_sectors l = length l.sectors.now
