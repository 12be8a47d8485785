use Rattle.std.proofs.Common.{◌≡◌, ◌+◌, ◌^◌, drop}
use Rattle.qn_index.specs.Extents.{capped}
use Rattle.qn_index.specs.Weights.{weight}
use Rattle.qn_index.proofs.table.Table.count_at.Given as goal

abbrev pub invariant-loop-w : goal.invariant-loop-w
invariant-loop-w g l = record {
  sum : capped (2 ^ 22) (l.sum + weight (drop l.w-index l.rows) l.charge) ≡ capped (2 ^ 22) (weight l.rows l.charge);
  small : l.sum ≡ capped (2 ^ 22) l.sum;
}
