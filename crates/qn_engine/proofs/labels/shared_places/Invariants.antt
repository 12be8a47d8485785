use Rattle.std.proofs.Common.{◌≡◌, take}
use Rattle.qn_engine.specs.Labels.{shared_labels}
use Rattle.qn_engine.proofs.labels.shared_places.Given as goal

abbrev pub invariant-loop-l : goal.invariant-loop-l
invariant-loop-l l = l.places.items ≡ shared_labels l.first l.second (take l.l-index l.summed)
