use Rattle.std.proofs.Common.{List, map, ◌≡◌, ◌≤◌, ap, arith, subst, ◌∙◌}
use Rattle.serde_json.specs.View.{view}
use Rattle.qn_index.specs.declared.leg.Dir.TheVariants.{Out}
use Rattle.qn_index.specs.Legs.{LegValue, SectorValue, total}
use Rattle.qn_index.specs.Refusals.{IsFirstLegFault}
use Rattle.qn_parts.specs.Sectors.{sector_of}
use Rattle.qn_json.specs.Tree.{items}
use Rattle.qn_sumdoc.proofs.SiteLegs.{site_leg_accepted, small}
use Rattle.qn_sumdoc.proofs.owned.leg_of.Goals as goal

pub unreachable-requires : goal.unreachable-requires
unreachable-requires g c =
    site_leg_accepted c.args.group.now c.args.site 0 (items (view c.args.v.now)) c.in-Err.field-0 (omega (arith, c.known.ensures.few, c.known.ensures.count)) c.in_ok-sectors.ensures.0
    (subst (λ ps. IsFirstLegFault c.args.group.now ps c.in-Err.field-0) c.in_ok-sectors.ensures.1 c.in-Err.ensures.err)

pub returns : goal.returns
returns g c =
    let leg_with : List SectorValue → LegValue = λ ps. record { arrow = Out; sectors = ps } in
    let is : c.in-Ok.leg ≡ leg_with (map (sector_of c.args.group.now) (items (view c.args.v.now))) = c.in-Ok.ensures.ok ∙ ap leg_with c.in_ok-sectors.ensures.1 in
    let few : total c.in-Ok.leg.sectors ≤ 64 = rw is (small c.args.group.now c.args.site 0 (items (view c.args.v.now)) c.in_ok-sectors.ensures.0) in
    (c.in_ok-sectors.ensures.0, (is, record { sectors = c.known-in-Ok.ensures; charges = c.in-Ok.ensures.group; out = ap (λ (l : LegValue). l.arrow) is; small = few }))
