use Rattle.std.proofs.Common.{◌≡◌, ◌++◌, length}
use Rattle.qn_engine.specs.Labels.{labels_without}
use Rattle.qn_engine.proofs.labels.append_left.Given as goal

abbrev pub invariant-loop-rest : goal.invariant-loop-rest
invariant-loop-rest l = l.out.items ++ labels_without l.summed l.rest ≡ l.initial.out.items ++ labels_without l.summed l.labels

abbrev pub decreases-loop-rest : goal.decreases-loop-rest
decreases-loop-rest l = length l.rest
