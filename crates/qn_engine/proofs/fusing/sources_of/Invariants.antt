use Rattle.std.proofs.Common.{◌≡◌, ◌≤◌, ◌+◌, ◌++◌, length}
use Rattle.qn_engine.specs.Fusing.{sources_from}
use Rattle.qn_engine.proofs.fusing.sources_of.Given as goal

abbrev pub invariant-loop-rest : goal.invariant-loop-rest
invariant-loop-rest l = record {
  done : l.sources.items ++ sources_from l.table l.summed l.next l.rest ≡ sources_from l.table l.summed 0 l.labels;
  below : l.next + length l.rest ≤ length l.labels;
}

abbrev pub decreases-loop-rest : goal.decreases-loop-rest
decreases-loop-rest l = length l.rest
