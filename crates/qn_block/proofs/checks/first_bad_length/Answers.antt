use Rattle.std.proofs.Common.{arith, ap, ◌≡◌, ◌∙◌, lit<}
use Rattle.qn_index.specs.Places.{block_size}
use Rattle.qn_value.specs.Tensors.{BlockValue}
use Rattle.qn_block.specs.Refusals.{block_at}
use Rattle.qn_block.proofs.Firsts.{block_read, tuple_read}
use Rattle.qn_block.proofs.checks.first_bad_length.Goals as goal

pub block_len-requires : goal.block_len-requires
block_len-requires g c =
    let ls = c.args.legs.now in
    let bs = c.args.blocks.now in
    let b = c.index-blocks-block.result in
    let size : block_size ls c.tuple.result.now ≡ block_size ls (block_at bs c.loop-block.block).tuple = ap (block_size ls) (c.tuple.ensures ∙ ap (λ (k : BlockValue). k.tuple) (block_read bs c.loop-block.block b c.loop-block-test.true c.index-blocks-block.is)) in
    (lit< tt, (tuple_read ls bs c.loop-block.block b c.tuple.result.now c.requires.tuples c.loop-block-test.true c.index-blocks-block.is c.tuple.ensures, omega (arith, size, c.requires.small c.loop-block.block c.loop-block-test.true)))
