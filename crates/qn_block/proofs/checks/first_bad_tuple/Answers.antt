use Rattle.qn_block.proofs.Firsts.{bad_by_length, bad_by_sector}
use Rattle.qn_block.proofs.checks.first_bad_tuple.Goals as goal

pub returns-then-tuple-legs : goal.returns-then-tuple-legs
returns-then-tuple-legs g c =
    let bad = bad_by_length c.args.legs.now c.args.blocks.now c.loop-block.block c.index-blocks-block.result c.tuple-tuple.result.now c.loop-block-test.true c.index-blocks-block.is c.tuple-tuple.ensures c.if-tuple-legs.true in
    (record { here = bad.0; before = c.loop-block.invariant }, bad.1)

pub returns-in-Some : goal.returns-in-Some
returns-in-Some g c =
    let bad = bad_by_sector c.args.legs.now c.args.blocks.now c.loop-block.block c.in-Some.leg c.index-blocks-block.result c.tuple-tuple.result.now c.loop-block-test.true c.index-blocks-block.is c.tuple-tuple.ensures c.if-tuple-legs.false c.in-Some.ensures in
    (record { here = bad.0; before = c.loop-block.invariant }, bad.1, bad.2)
