use Rattle.std.proofs.Common.{drop}
use Rattle.qn_index.proofs.Counts.{IsJoined}
use Rattle.qn_index.proofs.table.joined.Given as goal

abbrev pub invariant-loop-w : goal.invariant-loop-w
invariant-loop-w g l = IsJoined l.rows l.out.items l.last (drop l.w-index l.others)
