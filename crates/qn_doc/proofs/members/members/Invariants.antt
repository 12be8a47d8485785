use Rattle.std.proofs.Common.{◌≡◌, ◌+◌, ◌++◌, map, length}
use Rattle.std.specs.List.{All}
use Rattle.serde_json.specs.View.{view}
use Rattle.qn_parts.specs.Faults.{first_from, first_of}
use Rattle.qn_doc.specs.Members.{member_fault, labelled_of, IsInNetwork}
use Rattle.qn_doc.proofs.members.members.Given as goal

abbrev pub invariant-loop-rest : goal.invariant-loop-rest
invariant-loop-rest g l = record {
  walk : first_from (member_fault l.group) (l.before + 1) (map view l.rest) ≡ first_of (member_fault l.group) (map view l.list);
  made : l.made.items ++ map (labelled_of l.group) (map view l.rest) ≡ map (labelled_of l.group) (map view l.list);
  each : All (IsInNetwork l.group) l.made.items;
}

abbrev pub decreases-loop-rest : goal.decreases-loop-rest
decreases-loop-rest g l = length l.rest
