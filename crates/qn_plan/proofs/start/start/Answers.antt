use Rattle.std.proofs.Common.{List, map, flat_map, lit<, sym, ◌∙◌, ap, subst}
use Rattle.qn_value.specs.Labels.{AllPlaced}
use Rattle.qn_net.specs.NetworkValues.{PlacedMember}
use Rattle.qn_plan.specs.Shapes.{ShapeValue, inner_labels, sorted_labels}
use Rattle.qn_plan.proofs.Starting.{labels_long, begun}
use Rattle.qn_plan.proofs.start.start.Goals as goal

pub shapes_of-requires : goal.shapes_of-requires
shapes_of-requires g c = (
  lit< tt,
  (
    lit< tt,
    (
      c.tensors-members.ensures.few,
      labels_long c.args.net.now.group c.tensors-members.result.now
          (subst (λ (ps : List PlacedMember). AllPlaced c.args.net.now.group (map (λ (m : PlacedMember). m.placed) ps)) (sym c.tensors-members.ensures.members) c.known.ensures.well_formed.placed),
    ),
  ),
)

pub returns : goal.returns
returns g c =
    begun c.first_tensors_law.ensures c.network_value_law.ensures c.member_law.ensures c.args.net.now c.known.ensures.well_formed c.tensors-members.result.now c.tensors-members.ensures.members c.tensors-members.ensures.each
    c.tensors-members.ensures.few c.known_members.ensures c.in_ok-shapes.shapes.items c.in_ok-left.left.items c.in_ok-shapes.ensures
    (c.in_ok-left.ensures ∙ ap sorted_labels (c.deref-2.ensures.value ∙ (c.in_ok-labels.ensures ∙ ap (λ (ss : List ShapeValue). flat_map (λ s. inner_labels s.ends) ss) c.deref.ensures.value)))
