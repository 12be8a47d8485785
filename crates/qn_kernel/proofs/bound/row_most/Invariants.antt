use Rattle.std.proofs.Common.{◌≤◌, ℕ, take}
use Rattle.std.specs.List.{sum_by}
use Rattle.qn_gauss.specs.Gaussian.{limit}
use Rattle.qn_kernel.specs.Matrices.{amount_at}
use Rattle.qn_kernel.proofs.bound.row_most.Given as goal

abbrev pub invariant-loop-product : goal.invariant-loop-product
invariant-loop-product l = l.most ≤ limit → (y : ℕ) → sum_by (amount_at l.x y) (take l.product-index l.products) ≤ l.most
