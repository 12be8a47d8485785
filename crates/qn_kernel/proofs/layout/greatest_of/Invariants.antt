use Rattle.std.proofs.Common.{◌≤◌, ◌<◌, ℕ}
use Rattle.qn_gauss.specs.Gaussian.{mag}
use Rattle.qn_kernel.specs.Matrices.{number_at}
use Rattle.qn_kernel.proofs.layout.greatest_of.Given as goal

abbrev pub invariant-loop-cell : goal.invariant-loop-cell
invariant-loop-cell l = (i : ℕ) → i < l.cell-index → mag (number_at l.cells i) ≤ l.greatest
