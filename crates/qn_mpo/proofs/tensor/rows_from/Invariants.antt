use Rattle.std.proofs.Common.{◌≤◌, ◌+◌, drop}
use Rattle.qn_auto.specs.Building.{total_over}
use Rattle.qn_auto.specs.SumAutomaton.{sites_in, terms_in}
use Rattle.qn_mpo.specs.Rows.{left_stages, steps_at, steps_from}
use Rattle.qn_mpo.proofs.LeftStates.{AreRowsTo}
use Rattle.qn_mpo.proofs.tensor.rows_from.Given as goal

abbrev pub invariant-loop-left : goal.invariant-loop-left
invariant-loop-left g l = record {
  rows : AreRowsTo l.scene.sum l.scene.site l.left-index l.rows.items;
  ticks : l.steps + total_over (drop l.left-index (left_stages l.scene.sum l.scene.site)) (steps_from (sites_in l.scene.sum) (terms_in l.scene.sum) l.scene.site) ≤ l.fn.steps + steps_at l.scene.sum l.scene.site;
}
