use Rattle.std.proofs.Common.{◌≡◌, ◌++◌, map, false, length}
use Rattle.std.specs.List.{list_any}
use Rattle.serde_json.specs.View.{view}
use Rattle.qn_parts.specs.Sectors.{has_dim_out, sector_of}
use Rattle.qn_parts.proofs.sectors.made_sectors.Given as goal

abbrev pub invariant-loop-rest : goal.invariant-loop-rest
invariant-loop-rest g l = record {
  inside : list_any has_dim_out (map view l.rest) ≡ false;
  made : l.made.items ++ map (sector_of l.group) (map view l.rest) ≡ map (sector_of l.group) (map view l.list);
}

abbrev pub decreases-loop-rest : goal.decreases-loop-rest
decreases-loop-rest g l = length l.rest
