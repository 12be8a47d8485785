use Rattle.std.proofs.Common.{◌≡◌, ◌+◌, ◌++◌, map, length}
use Rattle.std.specs.List.{All}
use Rattle.serde_json.specs.View.{view}
use Rattle.qn_sites.specs.Sites.{SiteValue}
use Rattle.qn_parts.specs.Faults.{first_from, first_of}
use Rattle.qn_sumdoc.specs.Sites.{site_fault, site_of}
use Rattle.qn_sumdoc.proofs.sites.each_site.Given as goal

abbrev pub invariant-loop-rest : goal.invariant-loop-rest
invariant-loop-rest g l = record {
  walk : first_from (site_fault l.group) (l.before + 1) (map view l.rest) ≡ first_of (site_fault l.group) (map view l.list);
  made : l.made.items ++ map (site_of l.group) (map view l.rest) ≡ map (site_of l.group) (map view l.list);
  each : All (λ (s : SiteValue). s.group ≡ l.group) l.made.items;
}

abbrev pub decreases-loop-rest : goal.decreases-loop-rest
decreases-loop-rest g l = length l.rest
