use Rattle.std.proofs.Common.{◌≡◌, take}
use Rattle.qn_engine.specs.Labels.{coupled_labels}
use Rattle.qn_engine.proofs.labels.couple_places.Given as goal

abbrev pub invariant-loop-l : goal.invariant-loop-l
invariant-loop-l l = l.places.items ≡ coupled_labels l.labels (take l.l-index l.summed)
