use Rattle.std.proofs.Common.{◌≤◌, ◌<◌, ℕ}
use Rattle.qn_gauss.specs.Gaussian.{limit}
use Rattle.qn_kernel.specs.Matrices.{amounts_at}
use Rattle.qn_kernel.proofs.bound.first_above.Given as goal

abbrev pub invariant-loop-y : goal.invariant-loop-y
invariant-loop-y l = (j : ℕ) → j < l.y → amounts_at l.products l.x j ≤ limit
