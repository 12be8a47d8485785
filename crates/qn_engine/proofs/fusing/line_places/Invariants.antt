use Rattle.std.proofs.Common.{◌≡◌, ◌++◌, length}
use Rattle.qn_engine.specs.Fusing.{line_places}
use Rattle.qn_engine.proofs.fusing.line_places.Given as goal

abbrev pub invariant-loop-rest : goal.invariant-loop-rest
invariant-loop-rest l = l.places.items ++ line_places l.ends l.rest ≡ line_places l.ends l.labels

abbrev pub decreases-loop-rest : goal.decreases-loop-rest
decreases-loop-rest l = length l.rest
