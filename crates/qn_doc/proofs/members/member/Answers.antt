use Rattle.std.proofs.Common.{◌≡◌, map, codes, ap, sym, subst, ◌∙◌}
use Rattle.serde_json.specs.View.{view}
use Rattle.qn_net.specs.Members.{member_value, IsMemberOf}
use Rattle.qn_parts.specs.Sectors.{number_of}
use Rattle.qn_json.specs.Tree.{member_of}
use Rattle.qn_doc.specs.Members.{numbers_of, member_value_of, labelled_of, IsInNetwork}
use Rattle.qn_doc.proofs.Placing.{same_labelled}
use Rattle.qn_doc.proofs.members.member.Goals as goal

pub returns : goal.returns
unfolding labelled_of IsInNetwork
returns g c =
    let h = c.in_ok-member.ensures in
    let fs = c.args.group.now in
    let d = view c.args.v.now in
    let labels : c.in_ok-labels.labels.items ≡ numbers_of (member_of (codes "labels") d) = c.in_ok-labels.ensures ∙ ap (map number_of) c.items_at.ensures in
    let is = same_labelled (member_value g.row.K c.in_ok-member.member) (member_value_of fs d) c.in_ok-labels.labels.items (numbers_of (member_of (codes "labels") d)) h.1.0 labels in
    (h.0, (is, subst (IsMemberOf fs) (sym is) (h.1.1.labelled (numbers_of (member_of (codes "labels") d)))))
