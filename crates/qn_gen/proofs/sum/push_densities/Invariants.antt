use Rattle.std.proofs.Common.{◌≡◌, ◌++◌, map}
use Rattle.std.specs.List.{range_with_len}
use Rattle.qn_gen.specs.Workload.{density, turned}
use Rattle.qn_gen.proofs.sum.push_densities.Given as goal

abbrev pub invariant-loop-k : goal.invariant-loop-k
invariant-loop-k l = record {
  terms : l.terms.items ≡ l.fn.terms.items ++ map (density l.fn.draws.x) (range_with_len 1 l.k);
  state : l.draws.x ≡ turned l.fn.draws.x l.k;
}
