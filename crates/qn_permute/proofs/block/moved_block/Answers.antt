use Rattle.std.proofs.Common.{arith, ◌≡◌, ◌∙◌, ap, ap₂, length, List, ℕ}
use Rattle.qn_index.proofs.Nets.{tuple_length}
use Rattle.qn_value.specs.Tensors.{BlockValue}
use Rattle.qn_value.specs.Local.{picked}
use Rattle.qn_permute.specs.Moved.{moved_entries}
use Rattle.qn_permute.proofs.Moves.{block_made}
use Rattle.qn_permute.proofs.block.moved_block.Goals as goal

pub sectors_in_order-requires : goal.sectors_in_order-requires
sectors_in_order-requires g c =
    let tuple : c.as_slice-tuple.result.now ≡ c.args.block.now.tuple = c.as_slice-tuple.ensures ∙ ap (λ (b : BlockValue). b.tuple) c.block.view_is in
    let long = ap (λ (xs : List ℕ). length xs) tuple in
    record { order = λ k d lt. let within = c.requires.order.within k d lt in omega (arith, within, long, tuple_length c.args.legs.now c.args.block.now.tuple c.requires.block.tuple) }

pub returns : goal.returns
returns g c =
    let tuple : c.as_slice-tuple.result.now ≡ c.args.block.now.tuple = c.as_slice-tuple.ensures ∙ ap (λ (b : BlockValue). b.tuple) c.block.view_is in
    let source : c.as_slice-source.result.now ≡ c.args.block.now.entries = c.as_slice-source.ensures.value ∙ ap (λ (b : BlockValue). b.entries) c.block.view_is in
    let order = c.args.order.now in
    block_made (c.in_ok-sectors_in_order.ensures ∙ ap (λ t. picked 0 t order) tuple)
    (c.in_ok-entries.ensures ∙ ap₂ (λ t es. moved_entries c.args.group.now c.args.legs.now order t es) tuple source)
