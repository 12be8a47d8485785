use Rattle.std.proofs.Common.{◌≡◌, ◌++◌, drop}
use Rattle.qn_engine.specs.Fusing.{places_left}
use Rattle.qn_engine.proofs.fusing.places_left.Given as goal

abbrev pub invariant-loop-i : goal.invariant-loop-i
invariant-loop-i l = l.places.items ++ places_left l.summed l.i (drop l.i l.labels) ≡ places_left l.summed 0 l.labels
