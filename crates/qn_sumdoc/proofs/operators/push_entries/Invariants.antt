use Rattle.std.proofs.Common.{◌≡◌, ◌+◌, ◌++◌, map, length}
use Rattle.serde_json.specs.View.{view}
use Rattle.qn_parts.specs.Faults.{first_from}
use Rattle.qn_parts.specs.Tensors.{entry_or_zero}
use Rattle.qn_sumdoc.specs.Operators.{entry_fault}
use Rattle.qn_sumdoc.proofs.operators.push_entries.Given as goal

abbrev pub invariant-loop-rest : goal.invariant-loop-rest
invariant-loop-rest l = record {
  walk : first_from (entry_fault l.site l.op) (length l.made.items + 1) (map view l.rest) ≡ first_from (entry_fault l.site l.op) (length l.initial.made.items + 1) (map view l.row);
  made : l.made.items ++ map entry_or_zero (map view l.rest) ≡ l.initial.made.items ++ map entry_or_zero (map view l.row);
}

abbrev pub decreases-loop-rest : goal.decreases-loop-rest
decreases-loop-rest l = length l.rest
