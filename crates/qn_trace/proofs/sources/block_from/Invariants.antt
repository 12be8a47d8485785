use Rattle.qn_strides.proofs.Written.{AreEntries}
use Rattle.qn_trace.specs.Sources.{entry_sum, size_sum}
use Rattle.qn_trace.proofs.sources.block_from.Given as goal

abbrev pub invariant-loop-place : goal.invariant-loop-place
invariant-loop-place l = AreEntries (entry_sum l.sources) (size_sum l.sources) l.place l.entries.items
