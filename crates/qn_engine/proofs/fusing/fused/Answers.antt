use Rattle.std.proofs.Common.{rules, of_calls, ◌≡◌, List, sym, ◌∙◌, ap, subst, lit<}
use Rattle.qn_charge.specs.declared.factor.Factor.{Factor}
use Rattle.qn_index.specs.Legs.{LegValue}
use Rattle.qn_index.specs.Tuples.{IsFlux}
use Rattle.qn_index.specs.Places.{IsValues}
use Rattle.qn_value.specs.Tensors.{entry_of}
use Rattle.qn_block.specs.Blocked.{IsBlocked, tensor_of}
use Rattle.qn_block.specs.Combiners.{IsCombiner}
use Rattle.qn_engine.specs.Fusing.{FusionValue, PairAt, IsFusion, made_by}
use Rattle.qn_engine.proofs.FusedReady.{legs_charged, shape_is, fused_is}
use Rattle.qn_engine.proofs.fusing.fused.Goals as goal

pub from_fn-requires : goal.from_fn-requires
from_fn-requires g c =
    let f = c.args.fusion.now in
    let hc : IsCombiner f.combiner = subst (λ (v : FusionValue). IsCombiner v.combiner) c.fusion.view_is c.known.ensures in
    let ht : IsBlocked f.tensor = subst (λ (v : FusionValue). IsBlocked v.tensor) c.fusion.view_is c.known-2.ensures in
    let charges = legs_charged f c.requires.0 c.requires.1 hc ht c.group.result.now c.in_ok-wiring.legs.items (c.group.ensures ∙ ap (λ (v : FusionValue). v.tensor.group) c.fusion.view_is) c.in_ok-wiring.ensures.legs in
    let flux : IsFlux c.group.result.now c.flux.result.now =
    subst (λ (gs : List Factor). IsFlux gs c.flux.result.now) (sym c.group.ensures) (subst (IsFlux c.fusion.inside.tensor.now.group) (sym c.flux.ensures) c.known-2.ensures.flux) in
    (lit< tt, (lit< tt, (lit< tt, (lit< tt, (charges, (flux, λ x m. (lit< tt, (lit< tt, (c.in_ok-wiring.ensures.wiring, (c.requires, subst (λ (ls : List LegValue). IsValues ls x.now) c.in_ok-wiring.ensures.legs m.range))))))))))

pub returns-in-Ok : goal.returns-in-Ok
returns-in-Ok g c =
    let f = c.args.fusion.now in
    let hc : IsCombiner f.combiner = subst (λ (v : FusionValue). IsCombiner v.combiner) c.fusion.view_is c.known.ensures in
    let ht : IsBlocked f.tensor = subst (λ (v : FusionValue). IsBlocked v.tensor) c.fusion.view_is c.known-2.ensures in
    λ k h.
    fused_is f k h hc ht c.in-Ok.made c.known-in-Ok.ensures (c.in-Ok.ensures.group ∙ (c.group.ensures ∙ ap (λ (v : FusionValue). v.tensor.group) c.fusion.view_is)) (c.in-Ok.ensures.legs ∙ c.in_ok-wiring.ensures.legs)
    (c.in-Ok.ensures.flux ∙ (c.flux.ensures ∙ ap (λ (v : FusionValue). v.tensor.flux) c.fusion.view_is))
    (λ xs m.
    let a = c.in-Ok.ensures.entries xs m in
    let made : (j : PairAt) → IsFusion f j → entry_of (tensor_of c.in-Ok.made) xs ≡ (made_by j).node.entry a.shown.now = search (rules, of_calls, a.says.met) in
    made k h ∙ ap (made_by k).node.entry a.shows)

pub memory_of-requires : goal.memory_of-requires
memory_of-requires g c =
    let f = c.args.fusion.now in
    let hc : IsCombiner f.combiner = subst (λ (v : FusionValue). IsCombiner v.combiner) c.fusion.view_is c.known.ensures in
    let ht : IsBlocked f.tensor = subst (λ (v : FusionValue). IsBlocked v.tensor) c.fusion.view_is c.known-2.ensures in
    let shape = shape_is f c.requires.0 c.requires.1 hc ht c.group.result.now c.in_ok-wiring.legs.items c.flux.result.now (c.group.ensures ∙ ap (λ (v : FusionValue). v.tensor.group) c.fusion.view_is) c.in_ok-wiring.ensures.legs
    (c.flux.ensures ∙ ap (λ (v : FusionValue). v.tensor.flux) c.fusion.view_is) in
    (c.group.result.now, c.in_ok-wiring.legs.items, c.flux.result.now, shape, c.in-Err.ensures.err)
