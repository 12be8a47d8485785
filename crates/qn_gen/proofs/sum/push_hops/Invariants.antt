use Rattle.std.proofs.Common.{◌≡◌, ◌<◌, ◌≤◌, ◌-◌, max, ◌++◌}
use Rattle.std.specs.List.{flat_map, range_with_len}
use Rattle.qn_gen.specs.Workload.{hops}
use Rattle.qn_gen.proofs.sum.push_hops.Given as goal

abbrev pub invariant-loop-site : goal.invariant-loop-site
invariant-loop-site l = record {
  some : 0 < l.site;
  within : l.site ≤ max 1 l.count;
  terms : l.terms.items ≡ l.fn.terms.items ++ flat_map hops (range_with_len 1 (l.site - 1));
}
