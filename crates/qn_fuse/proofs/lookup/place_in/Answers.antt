use Rattle.std.proofs.Common.{◌∙◌, List, ap, lit<}
use Rattle.qn_index.specs.Legs.{LegValue}
use Rattle.qn_index.specs.Places.{values_at}
use Rattle.qn_fuse.proofs.Starts.{first_in, value_below, place_found}
use Rattle.qn_fuse.proofs.lookup.place_in.Goals as goal

pub value_of-requires : goal.value_of-requires
value_of-requires g c = (lit< tt, first_in c.args.c.now c.args.tuple.now c.deref.result.now c.known.ensures c.requires (c.deref.ensures.value ∙ (c.in_ok-values.ensures ∙ ap (λ (ls : List LegValue). values_at ls c.args.tuple.now 0) c.legs.ensures)))

pub at-requires : goal.at-requires
at-requires g c = (lit< tt, value_below c.args.c.now c.value_of.result c.deref.result.now c.fused.result.now c.fused.ensures c.value_of.ensures)

pub returns : goal.returns
returns g c =
    place_found c.args.c.now c.args.tuple.now c.deref.result.now c.fused.result.now c.value_of.result c.at.result.0 c.at.result.1 c.known.ensures c.requires
    (c.deref.ensures.value ∙ (c.in_ok-values.ensures ∙ ap (λ (ls : List LegValue). values_at ls c.args.tuple.now 0) c.legs.ensures))
    c.fused.ensures c.value_of.ensures c.at.ensures.in_range c.at.ensures.within c.at.ensures.place
