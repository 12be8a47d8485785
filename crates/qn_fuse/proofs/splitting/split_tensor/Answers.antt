use Rattle.std.proofs.Common.{◌∙◌, ℕ, List, ap, subst}
use Rattle.std.specs.List.{All}
use Rattle.qn_index.specs.Legs.{LegValue}
use Rattle.qn_value.specs.Tensors.{IsBlock, entry_in}
use Rattle.qn_block.specs.Blocked.{MeetFlux, tensor_of}
use Rattle.qn_fuse.specs.Fused.{split_at}
use Rattle.qn_fuse.specs.Pieces.{IsSplitEntry}
use Rattle.qn_fuse.proofs.Parts.{split_of}
use Rattle.qn_fuse.proofs.splitting.split_tensor.Goals as goal

pub returns-clause-value : goal.returns-clause-value
returns-clause-value g c =
    let t = c.args.t.now in
    split_of c.args.c.now c.args.at t c.of_blocks.result c.group-2.result.now c.in_ok-legs.legs.items c.flux-2.result.now c.in_ok-blocks.blocks.items c.group-2.ensures c.flux-2.ensures
    (c.in_ok-legs.ensures ∙ ap (split_at c.args.c.now c.args.at) c.legs.ensures) c.of_blocks.ensures
    (subst (λ (ks : List LegValue). All (IsBlock t.group ks t.flux) c.in_ok-blocks.blocks.items) c.deref-2.ensures.value c.in_ok-blocks.ensures.blocks)
    (subst (λ (ks : List LegValue). (xs : List ℕ) → MeetFlux t.group ks t.flux xs → IsSplitEntry c.args.c.now c.args.at (tensor_of t) xs (entry_in ks c.in_ok-blocks.blocks.items xs)) c.deref-2.ensures.value c.in_ok-blocks.ensures.entries)
