use Rattle.std.proofs.Common.{◌≡◌, length}
use Rattle.qn_kernel.proofs.Places.{AreRows}
use Rattle.qn_kernel.proofs.product.entries_of.Given as goal

abbrev pub invariant-loop-x : goal.invariant-loop-x
invariant-loop-x g l = record {
  rows_are : AreRows l.products l.cols l.fn.steps l.x l.entries.items l.steps;
  width : length l.row ≡ l.cols;
}
