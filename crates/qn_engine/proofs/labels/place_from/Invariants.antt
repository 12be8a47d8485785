use Rattle.std.proofs.Common.{◌≡◌, ◌≤◌, ◌+◌, drop}
use Rattle.qn_engine.specs.Labels.{place_in}
use Rattle.qn_engine.proofs.labels.place_from.Given as goal

abbrev pub invariant-loop-i : goal.invariant-loop-i
invariant-loop-i l = (l.from ≤ l.i) × (l.from + place_in l.label (drop l.from l.labels) ≡ l.i + place_in l.label (drop l.i l.labels))
