use Rattle.std.proofs.Common.{arith, ◌∙◌, ◌<◌, ◌+◌, ◌*◌, ◌++◌, ◌∷◌, [], ap, length}
use Rattle.std.proofs.lemmas.List.{get_or_default}
use Rattle.qn_gauss.specs.Gaussian.{zero_g, signed}
use Rattle.qn_permute.proofs.Lines.{appended_more, within_reach}
use Rattle.qn_permute.proofs.axis.append_line.Goals as goal

pub loop-i-preserved : goal.loop-i-preserved
loop-i-preserved c =
    let place = c.args.start + c.loop-i.i * c.args.axis.stride in
    let inside : place < length c.args.source.now = omega (arith, within_reach c.loop-i.i c.args.axis.len c.args.axis.stride (omega arith)) in
    appended_more _ _ _ _ _ _ _ (omega arith)
    (c.in_ok-append_entry.ensures
    ∙ ap (λ z. c.loop-i.out.items ++ signed c.args.minus z ∷ []) (c.index-source-start.is ∙ get_or_default c.args.source.now place c.index-source-start.result zero_g inside))
    c.loop-i.invariant
