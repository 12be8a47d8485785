use Rattle.std.proofs.Common.{◌≡◌, ◌+◌, ◌++◌, map, length}
use Rattle.std.specs.List.{All}
use Rattle.serde_json.specs.View.{view}
use Rattle.qn_index.specs.Legs.{IsLegOf}
use Rattle.qn_parts.specs.Faults.{first_from, first_of}
use Rattle.qn_parts.specs.Tensors.{leg_fault, leg_of}
use Rattle.qn_parts.proofs.legs.legs.Given as goal

abbrev pub invariant-loop-rest : goal.invariant-loop-rest
invariant-loop-rest g l = record {
  walk : first_from (leg_fault l.group l.tensor) (l.before + 1) (map view l.rest) ≡ first_of (leg_fault l.group l.tensor) (map view l.list);
  made : l.made.items ++ map (leg_of l.group) (map view l.rest) ≡ map (leg_of l.group) (map view l.list);
  charges : All (IsLegOf l.group) l.made.items;
}

abbrev pub decreases-loop-rest : goal.decreases-loop-rest
decreases-loop-rest g l = length l.rest
