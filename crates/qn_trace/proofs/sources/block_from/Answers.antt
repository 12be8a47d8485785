use Rattle.std.proofs.Common.{rules}
use Rattle.qn_strides.proofs.Written.{entries_more}
use Rattle.qn_strides.proofs.Counts.{within_limit}
use Rattle.qn_trace.specs.Sources.{entry_sum, size_sum}
use Rattle.qn_trace.proofs.sources.block_from.Goals as goal

pub loop-place-preserved : goal.loop-place-preserved
loop-place-preserved c =
    search (rules, entries_more (entry_sum c.args.sources.now) (size_sum c.args.sources.now) c.loop-place.place c.loop-place.entries.items c.in-Some.entry c.loop-place.invariant c.in-Some.ensures.value (within_limit (size_sum c.args.sources.now c.loop-place.place) c.in-Some.ensures.none.1))
