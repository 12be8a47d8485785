use Rattle.std.proofs.Common.{◌<◌, ℕ}
use Rattle.qn_gauss.specs.Gaussian.{limit}
use Rattle.qn_kernel.specs.Matrices.{AreAtMost}
use Rattle.qn_kernel.proofs.product.first_of.Given as goal

abbrev pub invariant-loop-x : goal.invariant-loop-x
invariant-loop-x l = (i : ℕ) → i < l.x → AreAtMost l.products l.cols i limit
