use Rattle.std.proofs.Common.{◌+◌, ℕ, take, sym, subst, slice_set, slice_index_or}
use Rattle.qn_net.specs.Tables.{HasLabel, IsFilled}
use Rattle.qn_net.proofs.TableLemmas.{fill_more}
use Rattle.qn_net.proofs.table.fill.Goals as goal

pub loop-i-preserved : goal.loop-i-preserved
loop-i-preserved c =
    let label : HasLabel c.index-ends-i.result = subst HasLabel (sym c.index-ends-i.is) (c.requires.labels c.loop-i.i c.index-ends-i.result c.loop-i-test.true) in
    subst (λ (k : ℕ). IsFilled c.args.ends.now (take (c.loop-i.i + 1) c.args.ends.now) (slice_set c.loop-i.counts k (slice_index_or c.loop-i.counts k 0 + 1)) (slice_set c.loop-i.spots k c.loop-i.i))
    (sym c.cell_of-c.ensures.cell)
    (fill_more c.args.ends.now c.loop-i.i c.index-ends-i.result c.loop-i.counts c.loop-i.spots c.loop-i-test.true (sym c.index-ends-i.is) label c.loop-i.invariant)
