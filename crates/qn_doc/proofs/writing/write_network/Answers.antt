use Rattle.std.proofs.Common.{◌≡◌, subst, ◌∙◌}
use Rattle.qn_json.specs.Appended.{IsAlone}
use Rattle.qn_json.proofs.Rereading.{alone}
use Rattle.qn_doc.specs.NetworkTexts.{network_data}
use Rattle.qn_doc.proofs.TextForms.{shallow}
use Rattle.qn_doc.proofs.writing.write_network.Goals as goal

pub returns : goal.returns
returns g c =
    let net = c.args.net.now in
    let ms = c.tensors-members.result.now in
    let d = network_data net.group net.order ms net.twists in
    let same : network_data c.group.result.now c.order.result.now ms c.twist.result.now ≡ d = λ i. network_data (c.group.ensures i) (c.order.ensures i) ms (c.twist.ensures i) in
    let is : IsAlone d c.write_parts.new.out =
    subst (λ e. IsAlone e c.write_parts.new.out) same
    (alone (network_data c.group.result.now c.order.result.now ms c.twist.result.now) c.new-out.result c.write_parts.new.out c.new-out.ensures.tokens (c.new-out.ensures.before ∙ c.new.ensures.items) c.in_ok-write_parts.ensures) in
    record {
      members = ms;
      held = c.known_members.ensures;
      are = c.tensors-members.ensures.members;
      is = c.in_ok-text.ensures.text d is;
      tree = c.in_ok-text.ensures.again d is (shallow net.group net.order ms net.twists);
    }
