use Rattle.std.proofs.Common.{rules, ◌≡◌, ◌+◌, ◌-◌, ◌++◌, take, drop, length, map, sym, ap, subst, ◌∙◌}
use Rattle.std.specs.List.{All}
use Rattle.std.proofs.lemmas.List.Elements.{All-push}
use Rattle.serde_json.specs.View.{view}
use Rattle.qn_sites.specs.Sites.{SiteValue}
use Rattle.qn_doc.proofs.Loops.{walk_next, made_next}
use Rattle.qn_sumdoc.specs.Sites.{site_fault, site_of}
use Rattle.qn_sumdoc.proofs.sites.each_site.Goals as goal

pub loop-rest-preserved : goal.loop-rest-preserved
loop-rest-preserved g c =
    let fs = c.args.group.now in
    let place : c.in-Some.place ≡ c.loop-rest.before + 1 = search rules in
    record {
      walk = walk_next (site_fault fs) (c.loop-rest.before + 1) c.in-Some.place c.loop-rest.rest.now c.v-item.result c.in-len1-up.len_at_least c.v-item.is place c.in_ok-site.ensures.0 ∙ c.loop-rest.invariant.walk;
      made = ap (λ xs. xs ++ map (site_of fs) (map view (take (length c.loop-rest.rest.now - 1) (drop 1 c.loop-rest.rest.now)))) c.in_ok-push.ensures.items
          ∙ (made_next (site_of fs) c.loop-rest.made.items c.in_ok-site.field-0 c.loop-rest.rest.now c.v-item.result c.in-len1-up.len_at_least c.v-item.is c.in_ok-site.ensures.1.0 ∙ c.loop-rest.invariant.made);
      each = subst (All (λ (s : SiteValue). s.group ≡ fs)) (sym c.in_ok-push.ensures.items) (All-push (λ (s : SiteValue). s.group ≡ fs) _ _ c.loop-rest.invariant.each c.in_ok-site.ensures.1.1);
    }
