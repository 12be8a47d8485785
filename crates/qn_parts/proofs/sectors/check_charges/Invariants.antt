use Rattle.std.proofs.Common.{◌≡◌, ◌+◌, map, length}
use Rattle.std.specs.List.{position_from}
use Rattle.serde_json.specs.View.{view}
use Rattle.qn_parts.specs.Sectors.{has_charge_out}
use Rattle.qn_parts.proofs.sectors.check_charges.Given as goal

abbrev pub invariant-loop-rest : goal.invariant-loop-rest
invariant-loop-rest g l = record {
  place : l.before + length l.rest ≡ length l.list;
  walk : position_from (has_charge_out l.group) l.before (map view l.rest) ≡ position_from (has_charge_out l.group) 0 (map view l.list);
}

abbrev pub decreases-loop-rest : goal.decreases-loop-rest
decreases-loop-rest g l = length l.rest
