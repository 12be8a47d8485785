use Rattle.std.proofs.Common.{ℤ, List, Option, Some, Vec, Global, sym, subst}
use Rattle.qn_net.specs.Refusals.{IsGoodOrder, given}
use Rattle.qn_net.proofs.network.chosen_order.Goals as goal

pub returns-in-Ok-clause-good : goal.returns-in-Ok-clause-good
returns-in-Ok-clause-good c =
    subst (λ (o : Option (Vec ℤ Global)). IsGoodOrder c.args.table.now (given o)) (sym c.in-Some.is)
    (subst (λ (ls : List ℤ). IsGoodOrder c.args.table.now (Some ls)) c.deref.ensures.value c.in-Ok.ensures.good)
