use Rattle.std.proofs.Common.{◌≡◌, ◌∙◌, ℕ, List, ap, subst, lit<}
use Rattle.std.specs.List.{All}
use Rattle.qn_index.specs.Legs.{LegValue}
use Rattle.qn_value.specs.Tensors.{IsBlock, entry_in}
use Rattle.qn_block.specs.Blocked.{MeetFlux, tensor_of}
use Rattle.qn_fuse.specs.Fused.{fused_at}
use Rattle.qn_fuse.specs.Pieces.{IsFusedEntry}
use Rattle.qn_fuse.proofs.Parts.{fused_shape, fused_of, made_ready}
use Rattle.qn_fuse.proofs.fusing.fused_tensor.Goals as goal

pub fused_blocks-requires : goal.fused_blocks-requires
fused_blocks-requires g c =
    let is : c.deref.result.now ≡ fused_at c.args.c.now c.args.first c.args.t.now.legs = c.deref.ensures.value ∙ (c.in_ok-legs.ensures ∙ ap (fused_at c.args.c.now c.args.first) c.legs.ensures) in
    let s = fused_shape c.args.c.now c.args.first c.args.t.now c.deref.result.now c.known-2.ensures c.known.ensures c.requires.group c.requires.legs is in
    (lit< tt, (lit< tt, (lit< tt, (c.requires.legs, (is, (s.0, s.1))))))

pub of_blocks-requires : goal.of_blocks-requires
of_blocks-requires g c =
    let is : c.deref.result.now ≡ fused_at c.args.c.now c.args.first c.args.t.now.legs = c.deref.ensures.value ∙ (c.in_ok-legs.ensures ∙ ap (fused_at c.args.c.now c.args.first) c.legs.ensures) in
    let s = fused_shape c.args.c.now c.args.first c.args.t.now c.deref.result.now c.known-2.ensures c.known.ensures c.requires.group c.requires.legs is in (
      lit< tt,
      (
        lit< tt,
        (
          lit< tt,
          (
            lit< tt,
            made_ready c.args.t.now c.group.result.now c.deref.result.now c.in_ok-legs.legs.items c.flux.result.now c.in_ok-blocks.blocks.items c.group.ensures c.flux.ensures c.deref.ensures.value
                c.known.ensures s.0 s.1 c.in_ok-blocks.ensures.blocks c.in_ok-blocks.ensures.ascending,
          ),
        ),
      ),
    )

pub returns : goal.returns
returns g c =
    let t = c.args.t.now in
    fused_of c.args.c.now c.args.first t c.of_blocks.result c.group.result.now c.in_ok-legs.legs.items c.flux.result.now c.in_ok-blocks.blocks.items c.group.ensures c.flux.ensures
    (c.in_ok-legs.ensures ∙ ap (fused_at c.args.c.now c.args.first) c.legs.ensures) c.of_blocks.ensures
    (subst (λ (ks : List LegValue). All (IsBlock t.group ks t.flux) c.in_ok-blocks.blocks.items) c.deref.ensures.value c.in_ok-blocks.ensures.blocks)
    (subst (λ (ks : List LegValue). (xs : List ℕ) → MeetFlux t.group ks t.flux xs → IsFusedEntry c.args.c.now c.args.first (tensor_of t) xs (entry_in ks c.in_ok-blocks.blocks.items xs)) c.deref.ensures.value c.in_ok-blocks.ensures.entries)
