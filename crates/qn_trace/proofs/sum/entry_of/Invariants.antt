use Rattle.std.proofs.Common.{length}
use Rattle.qn_strides.proofs.Summing.{IsSummedUp}
use Rattle.qn_trace.specs.Sources.{IsSource, source_term, source_size, SourceValue}
use Rattle.qn_trace.proofs.sum.entry_of.Given as goal

abbrev pub invariant-loop-rest : goal.invariant-loop-rest
invariant-loop-rest l = IsSummedUp IsSource (source_term l.place) (source_size l.place) (λ (x : SourceValue). 0) l.sources 0 l.rest l.sum l.size 0

abbrev pub decreases-loop-rest : goal.decreases-loop-rest
decreases-loop-rest l = length l.rest
