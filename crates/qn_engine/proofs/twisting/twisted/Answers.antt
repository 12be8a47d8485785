use Rattle.std.proofs.Common.{◌≡◌, ◌<◌, List, ℕ, length, lit<, sym, ◌∙◌, ap, subst}
use Rattle.std.specs.List.{All}
use Rattle.std.proofs.lemmas.Result.{IfOk-weaker}
use Rattle.qn_index.specs.Legs.{LegValue}
use Rattle.qn_block.specs.Blocked.{BlockedValue, tensor_of}
use Rattle.qn_net.specs.Members.{member_tensor}
use Rattle.qn_twist.specs.Twisted.{Twisted}
use Rattle.qn_engine.specs.Parts.{tensor_value, held_value}
use Rattle.qn_engine.specs.Twisting.{twisted_places}
use Rattle.qn_engine.proofs.TwistedParts.{places_within, twisted_same}
use Rattle.qn_engine.proofs.twisting.twisted.Goals as goal

pub twisted_at-requires : goal.twisted_at-requires
twisted_at-requires g c =
    let legs : c.legs.result.now ≡ (tensor_value g.row.K c.in_ok-tensor.tensor).legs = c.legs.ensures ∙ ap (λ (t : BlockedValue). t.legs) c.get.ensures in
    let places : c.deref.result.now ≡ twisted_places c.args.all c.args.summed.now c.args.twist.now 0 (tensor_value g.row.K c.in_ok-tensor.tensor).legs c.args.labels.now =
    c.deref.ensures.value ∙ c.in_ok-places.ensures ∙ ap (λ (ls : List LegValue). twisted_places c.args.all c.args.summed.now c.args.twist.now 0 ls c.args.labels.now) legs in (
      lit< tt,
      subst (λ (ks : List ℕ). All (λ k. k < length (tensor_value g.row.K c.in_ok-tensor.tensor).legs) ks) (sym places)
          (places_within c.args.all c.args.summed.now c.args.twist.now (tensor_value g.row.K c.in_ok-tensor.tensor).legs c.args.labels.now),
    )

pub returns : goal.returns
returns g c =
    let t : BlockedValue = tensor_value g.row.K c.in_ok-tensor.tensor in
    let legs : c.legs.result.now ≡ t.legs = c.legs.ensures ∙ ap (λ (t : BlockedValue). t.legs) c.get.ensures in
    let places : c.deref.result.now ≡ twisted_places c.args.all c.args.summed.now c.args.twist.now 0 t.legs c.args.labels.now =
    c.deref.ensures.value ∙ c.in_ok-places.ensures ∙ ap (λ (ls : List LegValue). twisted_places c.args.all c.args.summed.now c.args.twist.now 0 ls c.args.labels.now) legs in
    IfOk-weaker c.twisted_at.result _ _
    (λ r w. twisted_same c.args.all c.args.summed.now c.args.twist.now c.args.labels.now (tensor_of t) (member_tensor (held_value g.row.K c.args.held)) (tensor_of (tensor_value g.row.K r)) c.in_ok-tensor.ensures
    (subst (λ (ks : List ℕ). Twisted (tensor_of t) ks (tensor_of (tensor_value g.row.K r))) places w))
    c.twisted_at.ensures
