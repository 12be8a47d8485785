use Rattle.std.proofs.Common.{codes, map}
use Rattle.serde_json.specs.Data.{object, member}
use Rattle.qn_json.specs.Appended.{Appends, IsRead}
use Rattle.qn_json.specs.Texts.{list_data}
use Rattle.qn_parts.specs.TensorTexts.{factor_data}
use Rattle.qn_doc.specs.NetworkTexts.{labels_data, member_data, twist_members}
use Rattle.qn_json.proofs.Appending.{opens, adds}
use Rattle.qn_doc.proofs.Twisted.{closed, network_read}
use Rattle.qn_doc.proofs.writing.write_parts.Goals as goal

pub returns : goal.returns
returns g c =
    let q = list_data (map factor_data c.args.group.now) in
    let o = labels_data c.args.order.now in
    let m = list_data (map member_data c.args.members.now) in
    let left = twist_members c.args.twist.now in
    let tensors = member (codes "tensors") m left in
    let order = member (codes "order") o tensors in
    let all = member (codes "group") q order in
    let d = object all in
    let start = c.args.out.now in
    let on_q : Appends q c.key.new.self c.write_group.new.out = c.in_ok-write_group.ensures in
    let on_o : Appends o c.key-2.new.self c.write_numbers.new.out = c.in_ok-write_numbers.ensures in
    let on_m : Appends m c.key-3.new.self c.write_members.new.out = c.in_ok-write_members.ensures in
    let opened = opens all start c.begin_object.new.self c.in_ok-begin_object.ensures.ok c.begin_object.ensures.room.0 in
    let one = adds d (codes "group") q order start c.begin_object.new.self c.key.new.self c.write_group.new.out opened c.in_ok-key.ensures.ok c.key.ensures.room.0 on_q in
    let two = adds d (codes "order") o tensors start c.write_group.new.out c.key-2.new.self c.write_numbers.new.out one c.in_ok-key-2.ensures.ok c.key-2.ensures.room.0 on_o in
    let three = adds d (codes "tensors") m left start c.write_numbers.new.out c.key-3.new.self c.write_members.new.out two c.in_ok-key-3.ensures.ok c.key-3.ensures.room.0 on_m in
    closed c.write_twist.result d left start c.write_members.new.out c.write_twist.new.out (IsRead (labels_data c.args.twist.now)) three (network_read q o m c.args.twist.now on_q.read on_o.read on_m.read) c.write_twist.ensures.closes c.write_twist.ensures.read
