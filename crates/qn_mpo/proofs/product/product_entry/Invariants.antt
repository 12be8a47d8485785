use Rattle.std.proofs.Common.{◌≡◌, ◌≤◌, ◌+◌, ◌*◌}
use Rattle.qn_gauss.specs.Gaussian.{mag, mul_g}
use Rattle.qn_value.specs.Networks.{sum_below}
use Rattle.qn_value.specs.Magnitudes.{total_below}
use Rattle.qn_mpo.specs.Tables.{cell}
use Rattle.qn_mpo.proofs.product.product_entry.Given as goal

abbrev pub invariant-loop-v : goal.invariant-loop-v
invariant-loop-v g l = record {
  value : l.sum.value ≡ sum_below l.v (λ u. mul_g (cell l.dim l.left l.row u) (cell l.dim l.right u l.column));
  size : l.sum.size ≡ total_below l.v (λ u. mag (cell l.dim l.left l.row u) * mag (cell l.dim l.right u l.column));
  ticks : l.steps ≤ l.fn.steps + l.v;
}
