use Rattle.std.proofs.Common.{◌≡◌, ◌<◌, ℕ, map}
use Rattle.qn_gauss.specs.Gaussian.{zero_g}
use Rattle.qn_kernel.specs.Matrices.{number_at}
use Rattle.qn_kernel.proofs.row.clear.Given as goal

abbrev pub invariant-loop-y : goal.invariant-loop-y
invariant-loop-y g l = (k : ℕ) → k < l.y → number_at (map g.S.Total.total l.row) k ≡ zero_g
