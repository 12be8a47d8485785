use Rattle.std.proofs.Common.{◌≡◌, ◌≤◌, ◌+◌, map, length}
use Rattle.serde_json.specs.View.{view}
use Rattle.qn_parts.specs.Faults.{fault}
use Rattle.qn_parts.specs.Sectors.{dims_fault}
use Rattle.qn_parts.proofs.sectors.check_dims.Given as goal

abbrev pub invariant-loop-rest : goal.invariant-loop-rest
invariant-loop-rest l = record {
  within : l.total ≤ l.most;
  place : l.before + length l.rest ≡ length l.list;
  walk : dims_fault l.most (λ k. fault 10 l.tensor l.part k) l.total (l.before + 1) (map view l.rest)
      ≡ dims_fault l.most (λ k. fault 10 l.tensor l.part k) 0 1 (map view l.list);
}

abbrev pub decreases-loop-rest : goal.decreases-loop-rest
decreases-loop-rest l = length l.rest
