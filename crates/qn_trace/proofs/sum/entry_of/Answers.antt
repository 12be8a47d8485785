use Rattle.std.proofs.Common.{rules, refl, arith}
use Rattle.qn_trace.specs.Sources.{SourceValue, IsSource, source_term, source_size}
use Rattle.qn_strides.proofs.Summing.{summed_first, summed_step, summed_end}
use Rattle.qn_trace.proofs.sum.entry_of.Goals as goal

pub loop-rest-init : goal.loop-rest-init
loop-rest-init c = summed_first IsSource (source_term c.args.place) (source_size c.args.place) (λ (x : SourceValue). 0) c.args.sources.now 0 c.zero-sum.result 0 c.zero-sum.ensures refl c.requires.sources

pub loop-rest-preserved : goal.loop-rest-preserved
loop-rest-preserved c =
    summed_step IsSource (source_term c.args.place) (source_size c.args.place) (λ (x : SourceValue). 0) c.args.sources.now 0 c.loop-rest.rest.now c.source-item.result c.loop-rest.sum c.loop-rest.size 0 _ _ 0
    (search rules) (search rules) c.loop-rest.invariant (search rules) (search rules) (search rules) (search rules) (omega arith)

pub returns-clause-value : goal.returns-clause-value
returns-clause-value c =
    (summed_end IsSource (source_term c.args.place) (source_size c.args.place) (λ (x : SourceValue). 0) c.args.sources.now 0 c.loop-rest.rest.now c.loop-rest.sum c.loop-rest.size 0 (search rules) c.loop-rest.invariant).value
