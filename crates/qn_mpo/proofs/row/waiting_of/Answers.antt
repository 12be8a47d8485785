use Rattle.std.proofs.Common.{rules, subst, sym, ap, ◌∙◌, length}
use Rattle.qn_auto.specs.Terms.{IsStageOf}
use Rattle.qn_mpo.proofs.Numbers.{waits_at, waits_nowhere}
use Rattle.qn_mpo.proofs.Products.{scene_count}
use Rattle.qn_mpo.proofs.row.waiting_of.Goals as goal

pub number_of-requires : goal.number_of-requires
number_of-requires g c = let h = subst (IsStageOf c.args.scene.now.sum) (sym c.not_begun.ensures) tt in search rules

pub returns-in-Some : goal.returns-in-Some
returns-in-Some g c = λ n lt. waits_at c.args.scene.now.sum c.args.scene.now.site c.in-Some.number n c.not_begun.result c.in-Some.ensures.0 lt c.in-Some.ensures.1 c.not_begun.ensures

pub returns-in-None : goal.returns-in-None
returns-in-None g c = λ n lt. waits_nowhere c.args.scene.now.sum c.args.scene.now.site (length c.rights.result.now) n c.not_begun.result (ap length c.rights.ensures ∙ scene_count c.args.scene.now c.known.ensures) lt c.not_begun.ensures c.in-None.ensures
