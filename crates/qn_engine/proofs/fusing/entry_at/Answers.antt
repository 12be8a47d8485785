use Rattle.std.proofs.Common.{◌≤◌, ◌+◌, List, length, take, map, sym, ◌∙◌, ap, ap₂, subst, lit<}
use Rattle.std.specs.List.{All}
use Rattle.qn_sign.specs.Sign.{xor}
use Rattle.qn_gauss.specs.Gaussian.{signed}
use Rattle.qn_index.specs.Legs.{LegValue}
use Rattle.qn_index.specs.Places.{IsValues}
use Rattle.qn_value.specs.Tensors.{entry_of}
use Rattle.qn_block.specs.Blocked.{IsBlocked, tensor_of}
use Rattle.qn_block.specs.Combiners.{IsCombiner}
use Rattle.qn_engine.specs.declared.fusing.Source.{Source}
use Rattle.qn_engine.specs.Fusing.{FusionValue, IsSourceIn, source_value, table_left, IsMatch}
use Rattle.qn_engine.proofs.FusedReady.{AreParts, few_sources, few_legs, places_in, count_in, left_in, sources_in, is_right}
use Rattle.qn_engine.proofs.fusing.entry_at.Goals as goal

pub parts-requires : goal.parts-requires
parts-requires g c =
    let f = c.args.fusion.now in
    let hc : IsCombiner f.combiner = subst (λ (v : FusionValue). IsCombiner v.combiner) c.fusion.view_is c.known.ensures in
    let ht : IsBlocked f.tensor = subst (λ (v : FusionValue). IsBlocked v.tensor) c.fusion.view_is c.known-2.ensures in
    subst (λ n. n ≤ length c.args.values.now) (sym (c.count_left-count.ensures ∙ ap (λ (v : FusionValue). length (table_left v.combiner v.is_fuse)) c.fusion.view_is))
    (count_in f _ _ _ _ c.requires.wiring c.requires.step.0 c.requires.step.1 hc ht c.args.values.now c.requires.values)

pub table_values-minus-requires : goal.table_values-minus-requires
table_values-minus-requires g c =
    let f = c.args.fusion.now in
    let hc : IsCombiner f.combiner = subst (λ (v : FusionValue). IsCombiner v.combiner) c.fusion.view_is c.known.ensures in
    let ht : IsBlocked f.tensor = subst (λ (v : FusionValue). IsBlocked v.tensor) c.fusion.view_is c.known-2.ensures in
    let parts : AreParts f c.args.values.now c.parts.result.0.now c.parts.result.1.now =
    subst (λ (v : FusionValue). AreParts v c.args.values.now c.parts.result.0.now c.parts.result.1.now) c.fusion.view_is (record { whole = c.parts.ensures.whole; count = c.parts.ensures.count ∙ c.count_left-count.ensures }) in (
      lit< tt,
      subst (λ (v : FusionValue). IsValues (table_left v.combiner v.is_fuse) c.parts.result.0.now) (sym c.fusion.view_is)
          (left_in f _ _ _ _ c.requires.wiring c.requires.step.0 c.requires.step.1 hc ht c.args.values.now c.requires.values c.parts.result.0.now c.parts.result.1.now parts),
    )

pub tensor_values-others-requires-clause-few : goal.tensor_values-others-requires-clause-few
tensor_values-others-requires-clause-few g c =
    let f = c.args.fusion.now in
    let hc : IsCombiner f.combiner = subst (λ (v : FusionValue). IsCombiner v.combiner) c.fusion.view_is c.known.ensures in
    let ht : IsBlocked f.tensor = subst (λ (v : FusionValue). IsBlocked v.tensor) c.fusion.view_is c.known-2.ensures in
    subst (λ (ss : List Source). length ss ≤ 64) (sym c.as_slice-sources.ensures.value) (few_sources f _ _ _ _ c.requires.wiring c.requires.step.0 c.requires.step.1 hc ht)

pub tensor_values-others-requires-clause-within : goal.tensor_values-others-requires-clause-within
tensor_values-others-requires-clause-within g c =
    let f = c.args.fusion.now in
    let hc : IsCombiner f.combiner = subst (λ (v : FusionValue). IsCombiner v.combiner) c.fusion.view_is c.known.ensures in
    let ht : IsBlocked f.tensor = subst (λ (v : FusionValue). IsBlocked v.tensor) c.fusion.view_is c.known-2.ensures in
    let left = c.parts.result.0.now in
    let rest = c.parts.result.1.now in
    let minus = c.table_values-minus.result.1 in
    let us = take (length c.legs.result.now + 1) c.table_values-minus.result.0 in
    let parts : AreParts f c.args.values.now left rest =
    subst (λ (v : FusionValue). AreParts v c.args.values.now left rest) c.fusion.view_is (record { whole = c.parts.ensures.whole; count = c.parts.ensures.count ∙ c.count_left-count.ensures }) in
    let match : IsMatch f.combiner f.is_fuse left us minus =
    subst (λ (v : FusionValue). IsMatch v.combiner v.is_fuse left us minus) c.fusion.view_is
    (subst (λ (ls : List LegValue). IsMatch c.fusion.inside.combiner.now c.fusion.inside.is_fuse left (take (length ls + 1) c.table_values-minus.result.0) minus) (sym c.legs.ensures) c.table_values-minus.ensures) in
    subst (All (IsSourceIn (length us) (length rest))) (sym c.as_slice-sources.ensures.value)
    (sources_in f _ _ _ _ c.requires.wiring c.requires.step.0 c.requires.step.1 hc ht c.args.values.now c.requires.values left rest us minus parts match)

pub sign_of-sign-requires : goal.sign_of-sign-requires
sign_of-sign-requires g c =
    let f = c.args.fusion.now in
    let hc : IsCombiner f.combiner = subst (λ (v : FusionValue). IsCombiner v.combiner) c.fusion.view_is c.known.ensures in
    let ht : IsBlocked f.tensor = subst (λ (v : FusionValue). IsBlocked v.tensor) c.fusion.view_is c.known-2.ensures in
    let left = c.parts.result.0.now in
    let rest = c.parts.result.1.now in
    let minus = c.table_values-minus.result.1 in
    let us = take (length c.legs.result.now + 1) c.table_values-minus.result.0 in
    let vs = take (length c.as_slice-sources.result.now) c.tensor_values-others.result in
    let parts : AreParts f c.args.values.now left rest =
    subst (λ (v : FusionValue). AreParts v c.args.values.now left rest) c.fusion.view_is (record { whole = c.parts.ensures.whole; count = c.parts.ensures.count ∙ c.count_left-count.ensures }) in
    let match : IsMatch f.combiner f.is_fuse left us minus =
    subst (λ (v : FusionValue). IsMatch v.combiner v.is_fuse left us minus) c.fusion.view_is
    (subst (λ (ls : List LegValue). IsMatch c.fusion.inside.combiner.now c.fusion.inside.is_fuse left (take (length ls + 1) c.table_values-minus.result.0) minus) (sym c.legs.ensures) c.table_values-minus.ensures) in
    let right =
    is_right f _ _ _ _ c.requires.wiring c.requires.step.0 c.requires.step.1 hc ht c.args.values.now c.requires.values left rest us vs minus parts match
    (c.tensor_values-others.ensures ∙ ap (map (source_value us rest)) c.as_slice-sources.ensures.value) in
    (lit< tt, (lit< tt, (few_legs f _ _ _ _ c.requires.wiring c.requires.step.0 c.requires.step.1 hc ht, (places_in f _ _ _ _ c.requires.wiring c.requires.step.0 c.requires.step.1 hc ht, right.range))))

pub entry-entry-requires : goal.entry-entry-requires
entry-entry-requires g c =
    let f = c.args.fusion.now in
    let hc : IsCombiner f.combiner = subst (λ (v : FusionValue). IsCombiner v.combiner) c.fusion.view_is c.known.ensures in
    let ht : IsBlocked f.tensor = subst (λ (v : FusionValue). IsBlocked v.tensor) c.fusion.view_is c.known-2.ensures in
    let left = c.parts.result.0.now in
    let rest = c.parts.result.1.now in
    let minus = c.table_values-minus.result.1 in
    let us = take (length c.legs.result.now + 1) c.table_values-minus.result.0 in
    let vs = take (length c.as_slice-sources.result.now) c.tensor_values-others.result in
    let parts : AreParts f c.args.values.now left rest =
    subst (λ (v : FusionValue). AreParts v c.args.values.now left rest) c.fusion.view_is (record { whole = c.parts.ensures.whole; count = c.parts.ensures.count ∙ c.count_left-count.ensures }) in
    let match : IsMatch f.combiner f.is_fuse left us minus =
    subst (λ (v : FusionValue). IsMatch v.combiner v.is_fuse left us minus) c.fusion.view_is
    (subst (λ (ls : List LegValue). IsMatch c.fusion.inside.combiner.now c.fusion.inside.is_fuse left (take (length ls + 1) c.table_values-minus.result.0) minus) (sym c.legs.ensures) c.table_values-minus.ensures) in
    let right =
    is_right f _ _ _ _ c.requires.wiring c.requires.step.0 c.requires.step.1 hc ht c.args.values.now c.requires.values left rest us vs minus parts match
    (c.tensor_values-others.ensures ∙ ap (map (source_value us rest)) c.as_slice-sources.ensures.value) in
    (lit< tt, subst (λ (v : FusionValue). IsValues v.tensor.legs vs) (sym c.fusion.view_is) right.tensor)

pub returns : goal.returns
returns g c =
    let f = c.args.fusion.now in
    let hc : IsCombiner f.combiner = subst (λ (v : FusionValue). IsCombiner v.combiner) c.fusion.view_is c.known.ensures in
    let ht : IsBlocked f.tensor = subst (λ (v : FusionValue). IsBlocked v.tensor) c.fusion.view_is c.known-2.ensures in
    let left = c.parts.result.0.now in
    let rest = c.parts.result.1.now in
    let minus = c.table_values-minus.result.1 in
    let us = take (length c.legs.result.now + 1) c.table_values-minus.result.0 in
    let vs = take (length c.as_slice-sources.result.now) c.tensor_values-others.result in
    let parts : AreParts f c.args.values.now left rest =
    subst (λ (v : FusionValue). AreParts v c.args.values.now left rest) c.fusion.view_is (record { whole = c.parts.ensures.whole; count = c.parts.ensures.count ∙ c.count_left-count.ensures }) in
    let match : IsMatch f.combiner f.is_fuse left us minus =
    subst (λ (v : FusionValue). IsMatch v.combiner v.is_fuse left us minus) c.fusion.view_is
    (subst (λ (ls : List LegValue). IsMatch c.fusion.inside.combiner.now c.fusion.inside.is_fuse left (take (length ls + 1) c.table_values-minus.result.0) minus) (sym c.legs.ensures) c.table_values-minus.ensures) in
    let right =
    is_right f _ _ _ _ c.requires.wiring c.requires.step.0 c.requires.step.1 hc ht c.args.values.now c.requires.values left rest us vs minus parts match
    (c.tensor_values-others.ensures ∙ ap (map (source_value us rest)) c.as_slice-sources.ensures.value) in
    λ j i.
    c.with_sign.ensures.value
    ∙ ap₂ signed (c.differ-2.ensures ∙ ap (xor c.args.wiring.now.past) (c.differ.ensures ∙ ap (λ b. xor b minus) c.sign_of-sign.ensures)) (c.entry-entry.ensures ∙ ap (λ (v : FusionValue). entry_of (tensor_of v.tensor) vs) c.fusion.view_is)
    ∙ sym (right.entry j i)
