use Rattle.std.proofs.Common.{ℕ, ◌<◌}
use Rattle.qn_net.specs.Refusals.{BadLabelAt}
use Rattle.qn_net.proofs.labels.first_bad_label.Given as goal

abbrev pub invariant-loop-j : goal.invariant-loop-j
invariant-loop-j l = (k : ℕ) → k < l.j → BadLabelAt l.labels k → ⊥
