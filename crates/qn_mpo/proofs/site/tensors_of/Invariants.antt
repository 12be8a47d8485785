use Rattle.std.proofs.Common.{◌+◌, ◌≤◌}
use Rattle.qn_value.specs.Magnitudes.{total_below}
use Rattle.qn_mpo.specs.Rows.{steps_at}
use Rattle.qn_mpo.proofs.Sites.{AreBuilt}
use Rattle.qn_mpo.proofs.site.tensors_of.Given as goal

abbrev pub invariant-loop-site : goal.invariant-loop-site
invariant-loop-site g l = record {
  built : AreBuilt l.sum l.site l.tensors.items;
  ticks : l.steps ≤ l.fn.steps + total_below l.site (steps_at l.sum);
}
