use Rattle.std.proofs.Common.{rules, ◌≡◌, ◌<◌, length, get_or, set, ◌∙◌, ap, arith}
use Rattle.std.proofs.lemmas.List.Edits.{map_over_more}
use Rattle.qn_twist.specs.Twisted.{twisted_block}
use Rattle.qn_twist.proofs.tensor.twist_blocks.Goals as goal

pub loop-i-preserved : goal.loop-i-preserved
loop-i-preserved g c =
    let at : c.index_mut.result.now ≡ get_or c.loop-i.blocks.items c.loop-i.i c.index_mut.result.now = search rules in
    let lt : c.loop-i.i < length c.args.blocks.now.items = omega arith in
    ap (set c.loop-i.blocks.items c.loop-i.i) c.twist_block.ensures
    ∙ map_over_more (twisted_block c.args.group.now c.args.legs.now c.args.places.now) c.args.blocks.now.items c.loop-i.blocks.items c.loop-i.i c.index_mut.result.now lt c.loop-i.invariant at
