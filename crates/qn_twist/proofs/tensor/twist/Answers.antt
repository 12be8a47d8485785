use Rattle.std.proofs.Common.{◌≡◌, List, map, lit<, sym, ◌∙◌, ap, subst}
use Rattle.qn_index.specs.Legs.{LegValue}
use Rattle.qn_value.specs.Tensors.{BlockValue}
use Rattle.qn_block.specs.Blocked.{BlockedValue, IsBlocked}
use Rattle.qn_twist.specs.Twisted.{twisted, twisted_block}
use Rattle.qn_twist.proofs.Entries.{is_twisted, still_twisted}
use Rattle.qn_twist.proofs.tensor.twist.Goals as goal

pub of_blocks-twisted-requires : goal.of_blocks-twisted-requires
of_blocks-twisted-requires g c =
    let k = c.into_parts-group.ensures in
    let t : BlockedValue = record { group = c.into_parts-group.result.0; legs = c.into_parts-group.result.1.items; flux = c.into_parts-group.result.2; blocks = c.into_parts-group.result.3.items } in
    let same : c.args.t ≡ t = λ i. record { group = sym k.group i; legs = sym k.legs i; flux = sym k.flux i; blocks = sym k.blocks i } in
    let h : IsBlocked t = subst IsBlocked same k.known in
    let r : IsBlocked (record { group = t.group; legs = t.legs; flux = t.flux; blocks = c.twist_blocks.new.blocks.items }) = still_twisted t c.args.places.now c.twist_blocks.new.blocks.items h
    (c.twist_blocks.ensures ∙ ap (λ (ls : List LegValue). map (twisted_block t.group ls c.args.places.now) t.blocks) c.deref.ensures.value) in
    (lit< tt, (lit< tt, (lit< tt, (lit< tt, (r.charges, (r.flux, (r.shape, (r.blocks, r.ascending))))))))

pub returns-clause-value : goal.returns-clause-value
returns-clause-value g c =
    let k = c.into_parts-group.ensures in
    is_twisted c.entries_of_blocks.ensures.by_blocks c.args.t c.args.places.now c.of_blocks-twisted.result c.known.ensures c.known-2.ensures
    (c.of_blocks-twisted.ensures
    ∙ ap (λ (bs : List BlockValue). record { group = c.into_parts-group.result.0; legs = c.into_parts-group.result.1.items; flux = c.into_parts-group.result.2; blocks = bs })
    (c.twist_blocks.ensures ∙ ap (λ (ls : List LegValue). map (twisted_block c.into_parts-group.result.0 ls c.args.places.now) c.into_parts-group.result.3.items) c.deref.ensures.value)
    ∙ (λ i. twisted (record { group = k.group i; legs = k.legs i; flux = k.flux i; blocks = k.blocks i }) c.args.places.now))
