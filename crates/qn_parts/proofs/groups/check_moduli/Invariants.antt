use Rattle.std.proofs.Common.{◌≡◌, ◌+◌, map, length}
use Rattle.serde_json.specs.View.{view}
use Rattle.qn_parts.specs.Faults.{first_of, first_from}
use Rattle.qn_parts.specs.Groups.{modulus_fault}
use Rattle.qn_parts.proofs.groups.check_moduli.Given as goal

abbrev pub invariant-loop-rest : goal.invariant-loop-rest
invariant-loop-rest l = record {
  place : l.before + length l.rest ≡ length l.list;
  walk : first_from modulus_fault (l.before + 1) (map view l.rest) ≡ first_of modulus_fault (map view l.list);
}

abbrev pub decreases-loop-rest : goal.decreases-loop-rest
decreases-loop-rest l = length l.rest
