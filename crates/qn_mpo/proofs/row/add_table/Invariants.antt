use Rattle.std.proofs.Common.{◌≤◌, ◌+◌}
use Rattle.qn_mpo.proofs.Sums.{HaveTableTo}
use Rattle.qn_mpo.proofs.row.add_table.Given as goal

abbrev pub invariant-loop-place : goal.invariant-loop-place
invariant-loop-place g l = record {
  sums : HaveTableTo l.amount l.table l.start l.place l.fn.sums l.sums;
  ticks : l.steps ≤ l.fn.steps + l.place;
}
