use Rattle.std.proofs.Common.{lit<}
use Rattle.qn_gen.proofs.DrawnBlocks.{are_sound}
use Rattle.qn_gen.proofs.tensor.drawn_tensor.Goals as goal

pub of_blocks-requires : goal.of_blocks-requires
of_blocks-requires c =
    let s = are_sound c.args.draws.now.x c.args.group.now c.args.legs.items c.deref.result.now c.args.flux c.in_ok-blocks.blocks.items c.deref.ensures.value c.in_ok-blocks.ensures.blocks c.requires.shape in
    (lit< tt, (lit< tt, (lit< tt, (lit< tt, (c.requires.group, (c.requires.flux, (c.requires.shape, (s.blocks, s.ascending))))))))
