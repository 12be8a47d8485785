use Rattle.std.proofs.Common.{◌≡◌, ◌∙◌, ap, sym, subst, lit<, map, List}
use Rattle.std.specs.List.Sorted.{IsPermutation}
use Rattle.qn_index.specs.Legs.{LegValue}
use Rattle.qn_value.specs.Tensors.{BlockValue}
use Rattle.qn_value.specs.Local.{picked, no_leg, Moved}
use Rattle.qn_block.specs.Blocked.{BlockedValue, tensor_of}
use Rattle.qn_block.proofs.Ascending.{blocked_at}
use Rattle.qn_permute.specs.Moved.{moved_block}
use Rattle.qn_permute.proofs.Moves.{moved_tensor, moved_is_blocked, is_moved, is_kept, kept_copy}
use Rattle.qn_permute.proofs.tensor.permute.Goals as goal

pub returns-then-is_in_order : goal.returns-then-is_in_order
returns-then-is_in_order g c =
    kept_copy c.args.t.now c.args.order.now c.copy.result c.copy.ensures (is_kept c.args.t.now c.args.order.now c.requires.order (c.is_in_order.ensures.0 c.if-is_in_order.true))

pub of_blocks-requires : goal.of_blocks-requires
of_blocks-requires g c =
    let t = c.args.t.now in
    let order = c.args.order.now in
    let ds = c.sort_blocks.new.blocks.items in
    let made : c.in_ok-blocks.blocks.items ≡ map (moved_block t.group t.legs order) t.blocks =
    c.in_ok-blocks.ensures ∙ (λ i. map (moved_block (c.group.ensures i) (c.legs-2.ensures i) order) (c.blocks-2.ensures i)) in
    let p = subst (λ (xs : List BlockValue). IsPermutation xs ds) made c.in_ok-sort_blocks.ensures.kept in
    let legs : c.in_ok-legs.legs.items ≡ picked no_leg t.legs order = c.in_ok-legs.ensures ∙ ap (λ (ls : List LegValue). picked no_leg ls order) c.legs.ensures in
    let b = blocked_at (moved_tensor t order ds) c.group-2.result.now c.in_ok-legs.legs.items c.flux-2.result.now ds c.group-2.ensures legs c.flux-2.ensures (λ i. ds) (moved_is_blocked t order ds c.requires.order c.known.ensures p c.in_ok-sort_blocks.ensures.sorted) in
    (lit< tt, (lit< tt, (lit< tt, (lit< tt, (b.charges, (b.flux, (b.shape, (b.blocks, b.ascending))))))))

pub returns : goal.returns
returns g c =
    let t = c.args.t.now in
    let order = c.args.order.now in
    let ds = c.sort_blocks.new.blocks.items in
    let made : c.in_ok-blocks.blocks.items ≡ map (moved_block t.group t.legs order) t.blocks =
    c.in_ok-blocks.ensures ∙ (λ i. map (moved_block (c.group.ensures i) (c.legs-2.ensures i) order) (c.blocks-2.ensures i)) in
    let p = subst (λ (xs : List BlockValue). IsPermutation xs ds) made c.in_ok-sort_blocks.ensures.kept in
    let legs : c.in_ok-legs.legs.items ≡ picked no_leg t.legs order = c.in_ok-legs.ensures ∙ ap (λ (ls : List LegValue). picked no_leg ls order) c.legs.ensures in
    let same : c.of_blocks.result ≡ moved_tensor t order ds = cc (c.of_blocks.ensures, c.group-2.ensures, legs, c.flux-2.ensures) in
    subst (λ (u : BlockedValue). Moved (tensor_of t) order (tensor_of u)) (sym same) (is_moved t order ds c.requires.order c.known.ensures p c.in_ok-sort_blocks.ensures.sorted)
