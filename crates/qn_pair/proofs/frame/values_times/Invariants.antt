use Rattle.std.proofs.Common.{◌*◌, length}
use Rattle.qn_match.specs.Shares.{shared_size}
use Rattle.qn_pair.proofs.Products.{IsTimed}
use Rattle.qn_pair.proofs.frame.values_times.Given as goal

abbrev pub invariant-loop-rest : goal.invariant-loop-rest
invariant-loop-rest g l = IsTimed l.legs l.tuple (l.size * shared_size l.shared l.legs l.tuple) l.rest l.values

abbrev pub decreases-loop-rest : goal.decreases-loop-rest
decreases-loop-rest g l = length l.rest
