use Rattle.std.proofs.Common.{◌≤◌, ◌+◌, drop}
use Rattle.qn_auto.specs.Building.{total_over}
use Rattle.qn_auto.specs.SumAutomaton.{sites_in, terms_in}
use Rattle.qn_mpo.specs.Rows.{begun_steps}
use Rattle.qn_mpo.proofs.Sums.{AreSums}
use Rattle.qn_mpo.proofs.row.first_row.Given as goal

abbrev pub invariant-loop-term : goal.invariant-loop-term
invariant-loop-term g l = record {
  sums : AreSums l.scene.sum l.scene.site (drop l.term-index (terms_in l.scene.sum)) l.sums.items;
  ticks : l.steps + total_over (drop l.term-index (terms_in l.scene.sum)) (begun_steps (sites_in l.scene.sum) l.scene.site) ≤ l.fn.steps + total_over (terms_in l.scene.sum) (begun_steps (sites_in l.scene.sum) l.scene.site);
}
