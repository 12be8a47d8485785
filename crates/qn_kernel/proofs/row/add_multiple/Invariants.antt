use Rattle.std.proofs.Common.{◌≤◌, ◌+◌, map}
use Rattle.qn_kernel.proofs.Rows.{AreAdded}
use Rattle.qn_kernel.proofs.row.add_multiple.Given as goal

abbrev pub invariant-loop-y : goal.invariant-loop-y
invariant-loop-y g l = record {
  added : AreAdded (g.A.Number.value l.factor) (map g.B.Number.value l.line) (map g.S.Total.total l.fn.row) (map g.S.Total.total l.row) l.y;
  steps_are : l.steps ≤ l.fn.steps + l.y;
}
