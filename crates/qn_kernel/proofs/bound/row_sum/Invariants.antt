use Rattle.std.proofs.Common.{◌≤◌, ◌+◌, ◌*◌}
use Rattle.qn_gauss.specs.Gaussian.{limit, mag}
use Rattle.qn_value.specs.Magnitudes.{total_below}
use Rattle.qn_kernel.specs.Matrices.{number_at}
use Rattle.qn_kernel.proofs.bound.row_sum.Given as goal

abbrev pub invariant-loop-z : goal.invariant-loop-z
invariant-loop-z l = l.sum ≤ limit → total_below l.z (λ z. mag (number_at l.matrix.cells (l.x * l.matrix.cols + z))) ≤ l.sum
