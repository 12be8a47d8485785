use Rattle.std.proofs.Common.{◌≡◌, ◌-◌, ◌^◌, min}
use Rattle.qn_value.specs.Magnitudes.{total_below}
use Rattle.qn_kernel.specs.Matrices.{size_at}
use Rattle.qn_kernel.proofs.bound.amount_of.Given as goal

abbrev pub invariant-loop-z : goal.invariant-loop-z
invariant-loop-z l = l.amount ≡ min (total_below l.z (size_at l.product.first.cells l.product.second.cells l.product.first.cols l.product.second.cols l.x l.y)) (2 ^ 128 - 1)
