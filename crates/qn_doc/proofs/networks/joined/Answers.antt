use Rattle.std.proofs.Common.{◌≡◌, length, arith, refl, ap, ◌∙◌}
use Rattle.std.proofs.lemmas.List.{length-map}
use Rattle.serde_json.specs.View.{view}
use Rattle.qn_net.specs.Refusals.{given}
use Rattle.qn_parts.specs.Documents.{factors_of}
use Rattle.qn_doc.specs.Members.{labelled_of}
use Rattle.qn_doc.specs.Networks.{members_data}
use Rattle.qn_doc.proofs.Reading.{network_means, all_in_network}
use Rattle.qn_doc.proofs.networks.joined.Goals as goal

pub new-requires : goal.new-requires
new-requires g c =
    let d = view c.args.v.now in
    let count : length c.args.members.items ≡ length (members_data d) = ap length c.requires.members ∙ length-map (members_data d) (labelled_of (factors_of d)) in (
      omega arith,
      (
        omega arith,
        (
          omega arith,
          (omega (arith, count, c.requires.count.some), (omega (arith, count, c.requires.count.few), all_in_network c.args.group.now c.args.members.items c.requires.each)),
        ),
      ),
    )

pub returns-in-Ok : goal.returns-in-Ok
returns-in-Ok g c = (
  refl,
  network_means (view c.args.v.now) c.args.group.now c.args.members.items (given c.in_ok-order.order) c.in_ok-twist.twist.items c.in-Ok.net c.requires.factors c.requires.members c.in_ok-order.ensures c.in_ok-twist.ensures c.in-Ok.ensures.ok c.in-Ok.ensures.faultless,
)
