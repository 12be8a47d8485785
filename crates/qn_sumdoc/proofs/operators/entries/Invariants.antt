use Rattle.std.proofs.Common.{◌≡◌, ◌+◌, ◌++◌, map, length}
use Rattle.serde_json.specs.View.{view}
use Rattle.qn_parts.specs.Faults.{first_from, first_of}
use Rattle.qn_parts.specs.Tensors.{entry_or_zero}
use Rattle.qn_sumdoc.specs.Operators.{entries_data, entry_fault}
use Rattle.qn_sumdoc.proofs.operators.entries.Given as goal

abbrev pub invariant-loop-rest : goal.invariant-loop-rest
invariant-loop-rest l = record {
  walk : first_from (entry_fault l.site l.op) (length l.made.items + 1) (entries_data (map view l.rest)) ≡ first_of (entry_fault l.site l.op) (entries_data (map view l.rows));
  made : l.made.items ++ map entry_or_zero (entries_data (map view l.rest)) ≡ map entry_or_zero (entries_data (map view l.rows));
}

abbrev pub decreases-loop-rest : goal.decreases-loop-rest
decreases-loop-rest l = length l.rest
