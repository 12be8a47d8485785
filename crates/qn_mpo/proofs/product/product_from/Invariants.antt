use Rattle.std.proofs.Common.{◌≤◌, ◌+◌, ◌*◌}
use Rattle.qn_auto.specs.SumAutomaton.{sites_in}
use Rattle.qn_mpo.proofs.Products.{IsProduct}
use Rattle.qn_mpo.proofs.product.product_from.Given as goal

abbrev pub invariant-loop-i : goal.invariant-loop-i
invariant-loop-i g l = record {
  made : IsProduct (sites_in l.scene.sum) l.scene.site l.scene.dim l.fn.first l.later l.i l.made;
  ticks : l.steps ≤ l.fn.steps + l.i * (l.scene.dim * l.scene.dim * l.scene.dim);
}
