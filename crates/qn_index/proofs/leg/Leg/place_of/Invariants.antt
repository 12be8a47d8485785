use Rattle.std.proofs.Common.{◌≡◌}
use Rattle.qn_index.specs.Legs.{before}
use Rattle.qn_index.proofs.leg.Leg.place_of.Given as goal

abbrev pub invariant-loop-s : goal.invariant-loop-s
invariant-loop-s g l = l.sum ≡ before l.self.sectors l.s-index
