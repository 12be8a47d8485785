use Rattle.std.proofs.Common.{◌≡◌, ◌≤◌, ◌+◌, ◌*◌, map, length}
use Rattle.qn_kernel.specs.Matrices.{AddsProducts}
use Rattle.qn_kernel.proofs.row.add_products.Given as goal

abbrev pub invariant-loop-z : goal.invariant-loop-z
invariant-loop-z g l = record {
  added : AddsProducts (map g.A.Number.value l.firsts) (map g.B.Number.value l.seconds) l.inner (length l.fn.row) l.minus l.x l.z (map g.S.Total.total l.fn.row) (map g.S.Total.total l.row);
  steps_are : l.steps ≤ l.fn.steps + l.z * length l.fn.row;
  width : length l.row ≡ length l.fn.row;
}
