use Rattle.std.proofs.Common.{rules, ◌≡◌, ◌+◌, ◌-◌, ◌++◌, take, drop, length, map, sym, ap, subst, ◌∙◌}
use Rattle.std.specs.List.{All}
use Rattle.std.proofs.lemmas.List.Elements.{All-push}
use Rattle.serde_json.specs.View.{view}
use Rattle.qn_doc.specs.Members.{member_fault, labelled_of, IsInNetwork}
use Rattle.qn_doc.proofs.Loops.{walk_next, made_next}
use Rattle.qn_doc.proofs.members.members.Goals as goal

pub loop-rest-preserved : goal.loop-rest-preserved
loop-rest-preserved g c =
    let fs = c.args.group.now in
    let place : c.in-Some.place ≡ c.loop-rest.before + 1 = search rules in
    record {
      walk = walk_next (member_fault fs) (c.loop-rest.before + 1) c.in-Some.place c.loop-rest.rest.now c.v-item.result c.in-len1-up.len_at_least c.v-item.is place c.in_ok-member.ensures.0 ∙ c.loop-rest.invariant.walk;
      made = ap (λ xs. xs ++ map (labelled_of fs) (map view (take (length c.loop-rest.rest.now - 1) (drop 1 c.loop-rest.rest.now)))) c.in_ok-push.ensures.items
          ∙ (made_next (labelled_of fs) c.loop-rest.made.items c.in_ok-member.field-0 c.loop-rest.rest.now c.v-item.result c.in-len1-up.len_at_least c.v-item.is c.in_ok-member.ensures.1.0 ∙ c.loop-rest.invariant.made);
      each = subst (All (IsInNetwork fs)) (sym c.in_ok-push.ensures.items) (All-push (IsInNetwork fs) _ _ c.loop-rest.invariant.each c.in_ok-member.ensures.1.1);
    }
