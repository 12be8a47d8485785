use Rattle.std.proofs.Common.{rules, ◌≡◌, ◌<◌, length, get_or, set, ◌∙◌, ap, arith}
use Rattle.std.proofs.lemmas.List.Edits.{map_over_more}
use Rattle.qn_gauss.specs.Gaussian.{neg_g}
use Rattle.qn_twist.proofs.block.negate.Goals as goal

pub loop-i-preserved : goal.loop-i-preserved
loop-i-preserved c =
    let at : c.index.result.now ≡ get_or c.loop-i.entries.items c.loop-i.i c.index.result.now = search rules in
    let lt : c.loop-i.i < length c.args.entries.now.items = omega arith in
    ap (set c.loop-i.entries.items c.loop-i.i) c.neg.ensures.value
    ∙ map_over_more neg_g c.args.entries.now.items c.loop-i.entries.items c.loop-i.i c.index.result.now lt c.loop-i.invariant at
