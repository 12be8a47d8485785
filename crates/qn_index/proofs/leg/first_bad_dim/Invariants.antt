use Rattle.std.proofs.Common.{◌≡◌, ℕ, ◌<◌, ◌≤◌, ◌^◌}
use Rattle.qn_index.specs.Legs.{before}
use Rattle.qn_index.specs.Refusals.{BadDim}
use Rattle.qn_index.proofs.leg.first_bad_dim.Given as goal

abbrev pub invariant-loop-i : goal.invariant-loop-i
invariant-loop-i g l = record {
  sum : l.total ≡ before l.sectors l.i;
  small : l.total ≤ 2 ^ 20;
  dims : (j : ℕ) → j < l.i → BadDim l.sectors j → ⊥;
}
