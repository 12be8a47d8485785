use Rattle.std.proofs.Common.{◌==◌, ◌/◌, ◌%◌, ◌∙◌, cond}
use Rattle.qn_gauss.specs.Gaussian.{one_g, zero_g}
use Rattle.qn_sites.proofs.Made.{table_more}
use Rattle.qn_sites.proofs.given.unit_entries.Goals as goal

pub loop-place-preserved : goal.loop-place-preserved
loop-place-preserved c =
    c.in_ok-push.ensures.items
    ∙ table_more (λ k. cond (k / c.args.dim == k % c.args.dim) one_g zero_g) c.loop-place.place c.loop-place.entries.items c.unit_entry.result c.loop-place.invariant c.unit_entry.ensures
