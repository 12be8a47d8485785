use Rattle.std.proofs.Common.{map, arith, subst}
use Rattle.serde_json.specs.View.{view}
use Rattle.qn_index.specs.Refusals.{IsFirstLegFault}
use Rattle.qn_parts.proofs.Accepted.{leg_accepted}
use Rattle.qn_parts.proofs.legs.leg.Goals as goal

pub unreachable-requires : goal.unreachable-requires
unreachable-requires g c =
    leg_accepted c.args.group.now c.args.tensor c.args.part (map view c.items_at-list.result.now) c.in-Err.field-0 (omega (arith, c.known.ensures.few, c.known.ensures.count)) c.in_ok-sectors.ensures.0
    (subst (λ ps. IsFirstLegFault c.args.group.now ps c.in-Err.field-0) c.in_ok-sectors.ensures.1 c.in-Err.ensures.err)
