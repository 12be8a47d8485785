use Rattle.std.proofs.Common.{◌≡◌}
use Rattle.qn_strides.specs.Strides.{open_places}
use Rattle.qn_strides.proofs.places.open_places.Given as goal

abbrev pub invariant-loop-place : goal.invariant-loop-place
invariant-loop-place l = l.places.items ≡ open_places l.couples l.place
