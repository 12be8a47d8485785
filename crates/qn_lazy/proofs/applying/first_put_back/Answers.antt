use Rattle.std.proofs.Common.{lit<, ◌≡◌, ◌∙◌, sym, ap, subst, length, List}
use Rattle.qn_sign.specs.Positions.{IsOrder}
use Rattle.qn_index.specs.Legs.{LegValue}
use Rattle.qn_diagonal.specs.Diagonal.{put_back}
use Rattle.qn_lazy.proofs.Applied.{put_back_order}
use Rattle.qn_lazy.proofs.applying.first_put_back.Goals as goal

pub permute-requires-clause-order : goal.permute-requires-clause-order
permute-requires-clause-order g c κs within =
    let n = length c.args.t.now.legs in
    let order : c.deref.result.now ≡ put_back c.args.m n =
    c.deref.ensures.value ∙ c.in_ok-order.ensures ∙ ap (λ (ls : List LegValue). put_back c.args.m (length ls)) c.legs.ensures in
    (lit< tt, subst (IsOrder n) (sym order) (put_back_order c.args.m n c.requires))
