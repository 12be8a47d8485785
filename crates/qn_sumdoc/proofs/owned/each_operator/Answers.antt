use Rattle.std.proofs.Common.{rules, ◌≡◌, ◌+◌, ◌∷◌, map, ◌∙◌, String, Global}
use Rattle.serde_json.specs.declared.value.Value.{Value}
use Rattle.qn_sumdoc.specs.Objects.{named}
use Rattle.qn_sumdoc.specs.Operators.{operator_fault}
use Rattle.qn_sumdoc.proofs.OwnSites.{members_added, members_passed}
use Rattle.qn_sumdoc.proofs.owned.each_operator.Goals as goal

pub loop-name-preserved : goal.loop-name-preserved
loop-name-preserved g c =
    let fs = c.args.group.now in
    let l = c.args.leg.now in
    let e : String Global × Value = (c.in-Some.name.now, c.in-Some.v.now) in
    let is : c.loop-name.name-iterator ≡ e ∷ c.next.new.self = search rules in
    let place : c.in-Some-checked_add.place ≡ c.loop-name.before + 1 = search rules in
    let read = c.in_ok-operator.ensures in
    record {
      walk = members_passed (operator_fault fs l c.args.site) (c.loop-name.before + 1) c.in-Some-checked_add.place c.loop-name.name-iterator c.next.new.self e is place read.0 ∙ c.loop-name.invariant.walk;
      made = members_added (λ o. record { name = o.0; charge = o.1; entries = o.2.items }) fs l (map named c.args.members.now.entries) c.loop-name.name-iterator c.next.new.self e c.loop-name.made.items c.push.new.self.items c.in_ok-operator.field-0 is c.in_ok-push.ensures.items read.1 c.loop-name.invariant.made;
    }
