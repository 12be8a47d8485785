use Rattle.std.proofs.Common.{◌/◌, ◌%◌, ◌∙◌, map}
use Rattle.qn_sites.specs.Kinds.{entry_of, value_at}
use Rattle.qn_sites.proofs.Made.{table_more}
use Rattle.qn_sites.proofs.kind.fill.Goals as goal

pub loop-place-preserved : goal.loop-place-preserved
loop-place-preserved c =
    c.in_ok-push.ensures.items
    ∙ table_more (λ k. value_at (map entry_of c.args.entries.now) (k / c.args.dim) (k % c.args.dim)) c.loop-place.place c.loop-place.all.items c.entry_at.result c.loop-place.invariant c.entry_at.ensures
