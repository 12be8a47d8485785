use Rattle.std.proofs.Common.{ap, subst}
use Rattle.qn_net.specs.Members.MemberValue.{own}
use Rattle.qn_doc.specs.Members.{IsPlaced}
use Rattle.qn_doc.proofs.Placing.{own_placed}
use Rattle.qn_doc.proofs.members.own.Goals as goal

pub returns : goal.returns
returns g c =
    let h = c.in_ok-tensor.ensures in
    let placed = own_placed c.args.group.now c.in_ok-tensor.tensor (ap (λ t. t.group) h.1.0) c.known.ensures h.1.1 in
    (h.0, (ap own h.1.0, subst (λ t. IsPlaced c.args.group.now (own t)) h.1.0 placed))
