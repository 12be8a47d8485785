use Rattle.std.proofs.Common.{◌≡◌, ◌+◌, ◌++◌, map, length}
use Rattle.std.specs.Option.{option_or}
use Rattle.serde_json.specs.View.{view}
use Rattle.qn_parts.specs.Faults.{first_from, first_of}
use Rattle.qn_parts.specs.Tensors.{block_of, entry_fault}
use Rattle.qn_parts.proofs.blocks.blocks.Given as goal

abbrev pub invariant-loop-rest : goal.invariant-loop-rest
invariant-loop-rest l = record {
  made : l.made.items ++ map block_of (map view l.rest) ≡ map block_of (map view l.list);
  walk : option_or l.fault (first_from (entry_fault l.tensor) (l.before + 1) (map view l.rest)) ≡ first_of (entry_fault l.tensor) (map view l.list);
}

abbrev pub decreases-loop-rest : goal.decreases-loop-rest
decreases-loop-rest l = length l.rest
