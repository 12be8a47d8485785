use Rattle.std.proofs.Common.{◌≡◌, ◌-◌, ◌^◌, min, take}
use Rattle.std.specs.List.{sum_by}
use Rattle.qn_kernel.specs.Matrices.{amount_at}
use Rattle.qn_kernel.proofs.bound.amounts_of.Given as goal

abbrev pub invariant-loop-product : goal.invariant-loop-product
invariant-loop-product l = l.amount ≡ min (sum_by (amount_at l.x l.y) (take l.product-index l.products)) (2 ^ 128 - 1)
