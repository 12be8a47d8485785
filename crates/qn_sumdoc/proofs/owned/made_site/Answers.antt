use Rattle.std.proofs.Common.{lit<, ◌≡◌, ◌*◌, length, map, ap, ap₂, refl, subst, ◌∙◌, arith}
use Rattle.std.proofs.lemmas.List.{length-map}
use Rattle.std.proofs.lemmas.Simd.{map-map}
use Rattle.qn_index.specs.Legs.{total}
use Rattle.qn_sites.specs.Sites.{AreAscending, GivenOp, SiteValue, site_with}
use Rattle.qn_sumdoc.specs.Sites.{own_site}
use Rattle.qn_sumdoc.proofs.owned.made_site.Goals as goal
use Rattle.qn_facts.proofs.Lists.{unmapped}

pub own-requires : goal.own-requires
own-requires g c =
    let os = c.args.ops.items in
    let count : length (map {B = GivenOp} (λ o. record { name = o.0; charge = o.1; entries = o.2.items }) os) ≡ length os = length-map os (λ o. record { name = o.0; charge = o.1; entries = o.2.items }) in
    let names = subst AreAscending (map-map (λ (o : GivenOp). o.name) (λ o. record { name = o.0; charge = o.1; entries = o.2.items }) os) c.requires.ops.ascending in (
      lit< tt,
      (
        lit< tt,
        (
          lit< tt,
          (
            lit< tt,
            (
              c.requires.is,
              (
                omega (arith, count, c.requires.ops.few),
                (
                  names,
                  unmapped (λ (o : GivenOp). length o.entries ≡ total c.args.leg.sectors * total c.args.leg.sectors) (λ o. record { name = o.0; charge = o.1; entries = o.2.items }) os c.requires.ops.operators.full,
                ),
              ),
            ),
          ),
        ),
      ),
    )

pub returns-in-Ok : goal.returns-in-Ok
unfolding own_site
returns-in-Ok g c =
    let is = c.in-Ok.ensures.ok in
    (refl, (is ∙ ap₂ (site_with c.args.group.now) c.requires.leg c.requires.ops.operators.are, ap (λ (s : SiteValue). s.group) is))
