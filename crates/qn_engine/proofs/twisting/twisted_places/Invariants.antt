use Rattle.std.proofs.Common.{◌≡◌, ◌++◌, drop}
use Rattle.qn_engine.specs.Twisting.{twisted_places}
use Rattle.qn_engine.proofs.twisting.twisted_places.Given as goal

abbrev pub invariant-loop-i : goal.invariant-loop-i
invariant-loop-i g l =
    l.places.items ++ twisted_places l.all l.summed l.twist l.i (drop l.i l.legs) (drop l.i l.labels) ≡ twisted_places l.all l.summed l.twist 0 l.legs l.labels
