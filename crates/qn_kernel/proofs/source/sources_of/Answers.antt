use Rattle.std.proofs.Common.{rules, get_or}
use Rattle.qn_kernel.proofs.Frames.{gathered_more, gathered_shape}
use Rattle.qn_kernel.proofs.source.sources_of.Goals as goal

pub loop-pair-preserved : goal.loop-pair-preserved
loop-pair-preserved g c =
    let p = get_or c.args.pairs.now c.loop-pair.pair-index (0, 0) in
    search (
      rules,
      gathered_more c.args.group.now c.args.firsts.now c.args.seconds.now c.args.shared.now c.args.turned c.args.left.now c.args.sectors.now c.args.xs.now c.args.ys.now c.args.pairs.now c.loop-pair.pair-index
          c.index-xs-pair.result c.index-ys-pair.result c.in_ok-source.source c.loop-pair.sources.items c.loop-pair-test.true (search rules) (search rules) (search rules) (search rules) c.in_ok-source.ensures.value c.in_ok-source.ensures.small c.loop-pair.invariant,
    )

pub returns-clause-small : goal.returns-clause-small
returns-clause-small g c =
    gathered_shape c.args.group.now c.args.firsts.now c.args.seconds.now c.args.shared.now c.args.turned c.args.left.now c.args.sectors.now c.args.xs.now c.args.ys.now c.args.pairs.now c.loop-pair.pair-index c.loop-pair.sources.items c.requires.sectors c.loop-pair.invariant
