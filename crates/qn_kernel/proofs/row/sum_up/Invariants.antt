use Rattle.std.proofs.Common.{◌≡◌, map, length}
use Rattle.qn_kernel.proofs.Rows.{AreSummed}
use Rattle.qn_kernel.proofs.row.sum_up.Given as goal

abbrev pub invariant-loop-product : goal.invariant-loop-product
invariant-loop-product g l = record {
  summed : AreSummed l.products (length l.fn.row) l.x l.fn.steps l.product-index (map g.S.Total.total l.row) l.steps;
  width : length l.row ≡ length l.fn.row;
}
