use Rattle.std.proofs.Common.{◌≡◌, ◌+◌}
use Rattle.qn_index.specs.Legs.{before}
use Rattle.qn_index.proofs.leg.Leg.at.Given as goal

abbrev pub invariant-loop-i : goal.invariant-loop-i
invariant-loop-i g l = before l.self.sectors l.i + l.rest ≡ l.v
