use Rattle.std.proofs.Common.{◌≡◌, take}
use Rattle.qn_plan.specs.Shapes.{shared_places}
use Rattle.qn_plan.proofs.ends.shared_places.Given as goal

abbrev pub invariant-loop-l : goal.invariant-loop-l
invariant-loop-l l = l.places.items ≡ shared_places l.first l.second (take l.l-index l.labels)
