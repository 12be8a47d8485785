use Rattle.std.proofs.Common.{rules, ◌≡◌, subst, codes, Some, None}
use Rattle.std.specs.Option.{option_map_or}
use Rattle.serde_json.specs.Find.{get}
use Rattle.serde_json.specs.View.{view}
use Rattle.qn_net.specs.Members.{member_value}
use Rattle.qn_net.specs.Members.MemberValue.{own}
use Rattle.qn_parts.specs.Faults.{Reads}
use Rattle.qn_parts.specs.Tensors.{tensor_of, tensor_fault}
use Rattle.qn_doc.specs.Combiners.{combiner_fault}
use Rattle.qn_doc.specs.Members.{table_of, member_fault, IsPlaced}
use Rattle.qn_doc.proofs.members.part.Goals as goal

pub returns-in-Some : goal.returns-in-Some
unfolding member_fault
returns-in-Some g c =
    let fs = c.args.group.now in
    let d = view c.args.v.now in
    let is : Some (view c.in-Some.found.now) ≡ get (codes "combine") d = search rules in
    subst
    (λ o. Reads c.table.result (option_map_or (combiner_fault fs c.args.number) o (tensor_fault fs c.args.number d))
    (λ m. (member_value g.row.K m ≡ option_map_or (table_of fs) o (own (tensor_of fs d))) × IsPlaced fs (option_map_or (table_of fs) o (own (tensor_of fs d)))))
    is c.table.ensures

pub returns-in-None : goal.returns-in-None
unfolding member_fault
returns-in-None g c =
    let fs = c.args.group.now in
    let d = view c.args.v.now in
    let is : None ≡ get (codes "combine") d = search rules in
    subst
    (λ o. Reads c.own.result (option_map_or (combiner_fault fs c.args.number) o (tensor_fault fs c.args.number d))
    (λ m. (member_value g.row.K m ≡ option_map_or (table_of fs) o (own (tensor_of fs d))) × IsPlaced fs (option_map_or (table_of fs) o (own (tensor_of fs d)))))
    is c.own.ensures
