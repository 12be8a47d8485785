use Rattle.std.proofs.Common.{◌≡◌, ℤ, List, length, sym, ◌∙◌, ap, lit<}
use Rattle.qn_index.specs.Legs.{LegValue}
use Rattle.qn_engine.proofs.FusedArrays.{places_within}
use Rattle.qn_engine.proofs.FusedReady.{word_long}
use Rattle.qn_engine.proofs.fusing.wiring_of.Goals as goal

pub legs_at-requires : goal.legs_at-requires
legs_at-requires g c =
    let long : length c.deref-6.result.now ≡ length c.deref-4.result.now =
    ap (λ (gs : List LegValue). length gs) (c.deref-6.ensures.value ∙ c.in_ok-legs.ensures) ∙ word_long c.args.fusion.now c.requires.0 c.requires.1
    ∙ sym (ap (λ (ls : List ℤ). length ls) (c.deref-4.ensures.value ∙ c.in_ok-labels.ensures)) in
    (lit< tt, places_within c.deref-7.result.now c.deref-6.result.now c.deref-4.result.now _ (c.deref-7.ensures.value ∙ c.in_ok-left.ensures) long)
