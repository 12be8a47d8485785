use Rattle.std.proofs.Common.{rules, of_calls, subst, sym, ap, ◌∙◌, ◌≡◌, List, lit<}
use Rattle.std.specs.List.{All}
use Rattle.qn_charge.specs.declared.factor.Factor.{Factor}
use Rattle.qn_index.specs.Extents.{IsWithinLimits}
use Rattle.qn_index.specs.Legs.{IsLegOf, LegValue}
use Rattle.qn_index.specs.Places.{IsValues}
use Rattle.qn_index.specs.Tuples.{IsFlux}
use Rattle.qn_value.specs.Tensors.{entry_of}
use Rattle.qn_block.specs.Blocked.{tensor_of}
use Rattle.qn_auto.specs.SumAutomaton.{entry_at_site}
use Rattle.qn_mpo.proofs.LeftStates.{tensor_is}
use Rattle.qn_mpo.proofs.tensor.filled.Goals as goal

pub from_fn-requires : goal.from_fn-requires
from_fn-requires g c =
    let parts = c.into_parts-group.ensures in
    let charges = subst (λ (gs : List Factor). All (IsLegOf gs) c.into_parts-group.result.1.items) (sym parts.group) (subst (All (IsLegOf c.args.empty.group)) (sym parts.legs) parts.known.charges) in
    let flux = subst (λ (gs : List Factor). IsFlux gs c.into_parts-group.result.2) (sym parts.group) (subst (IsFlux c.args.empty.group) (sym parts.flux) parts.known.flux) in
    (lit< tt, (lit< tt, (lit< tt, (lit< tt, (charges, (flux, λ x m. (lit< tt, (c.requires.rows, subst (λ (ls : List LegValue). IsValues ls x.now) (parts.legs ∙ c.requires.shape.legs) m.range))))))))

pub memory_of-requires : goal.memory_of-requires
memory_of-requires g c =
    let parts = c.into_parts-group.ensures in
    let shape =
    subst (λ (gs : List Factor). IsWithinLimits gs c.into_parts-group.result.1.items c.into_parts-group.result.2) (sym parts.group)
    (subst (λ (ls : List LegValue). IsWithinLimits c.args.empty.group ls c.into_parts-group.result.2) (sym parts.legs) (subst (IsWithinLimits c.args.empty.group c.args.empty.legs) (sym parts.flux) parts.known.shape)) in
    (c.into_parts-group.result.0, c.into_parts-group.result.1.items, c.into_parts-group.result.2, shape, c.in-Err.ensures.err)

pub returns-in-Ok : goal.returns-in-Ok
returns-in-Ok g c =
    let v = c.args.scene.now.sum in
    let j = c.args.scene.now.site in
    let parts = c.into_parts-group.ensures in
    tensor_is v c.known.ensures.sum j c.known.ensures.within c.args.empty c.in-Ok.tensor c.canonical.result c.requires.shape c.known-in-Ok.ensures (c.in-Ok.ensures.group ∙ parts.group) (c.in-Ok.ensures.legs ∙ parts.legs) (c.in-Ok.ensures.flux ∙ parts.flux)
    (λ xs m.
    let a = c.in-Ok.ensures.entries xs m in
    let made : entry_of (tensor_of c.in-Ok.tensor) xs ≡ entry_at_site v j a.shown.now = search (rules, of_calls, a.says.met) in
    made ∙ ap (entry_at_site v j) a.shows) c.canonical.ensures.blocks c.canonical.ensures.entries
