use Rattle.std.proofs.Common.{◌≡◌, ◌+◌, ◌≤◌, map, length}
use Rattle.serde_json.specs.View.{view}
use Rattle.qn_sumdoc.specs.Operators.{first_other_row}
use Rattle.qn_sumdoc.proofs.operators.check_rows.Given as goal

abbrev pub invariant-loop-rest : goal.invariant-loop-rest
invariant-loop-rest l = record {
  walk : first_other_row l.dim l.place (map view l.rest) ≡ first_other_row l.dim 1 (map view l.rows);
  place : l.place ≤ l.dim + 1;
}

abbrev pub decreases-loop-rest : goal.decreases-loop-rest
decreases-loop-rest l = length l.rest
