use Rattle.std.proofs.Common.{take}
use Rattle.std.specs.List.{All}
use Rattle.qn_kernel.specs.Matrices.{IsNarrow}
use Rattle.qn_kernel.proofs.product.are_narrow.Given as goal

abbrev pub invariant-loop-product : goal.invariant-loop-product
invariant-loop-product l = All IsNarrow (take l.product-index l.products)
