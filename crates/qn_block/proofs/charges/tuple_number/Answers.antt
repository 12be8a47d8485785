use Rattle.std.proofs.Common.{rules, arith, refl, ◌<◌, ◌+◌, ◌*◌, ◌^◌, ap, length}
use Rattle.qn_index.proofs.Shapes.{rank_is}
use Rattle.qn_block.proofs.Counted.{number_more, number_all}
use Rattle.qn_block.proofs.charges.tuple_number.Goals as goal

pub overflow_mul-number : goal.overflow_mul-number
overflow_mul-number g c =
    let m = number_more c.args.legs.now c.args.tuple.now c.loop-i.i c.loop-i.number (length c.sectors.result.now) _ c.index-legs-i.result c.known_all.ensures c.requires.tuple c.requires.count (omega arith) c.index-legs-i.is (ap length c.sectors.ensures) refl c.loop-i.invariant in
    let small : c.loop-i.number * length c.sectors.result.now < 2 ^ 32 = omega (arith, m.small) in
    search rules

pub bounds-tuple-i : goal.bounds-tuple-i
bounds-tuple-i g c =
    (number_more c.args.legs.now c.args.tuple.now c.loop-i.i c.loop-i.number (length c.sectors.result.now) _ c.index-legs-i.result c.known_all.ensures c.requires.tuple c.requires.count (omega arith) c.index-legs-i.is (ap length c.sectors.ensures) refl c.loop-i.invariant).there

pub overflow_add-number : goal.overflow_add-number
overflow_add-number g c =
    let m = number_more c.args.legs.now c.args.tuple.now c.loop-i.i c.loop-i.number (length c.sectors.result.now) c.from.result c.index-legs-i.result c.known_all.ensures c.requires.tuple c.requires.count (omega arith) c.index-legs-i.is (ap length c.sectors.ensures) c.from.ensures c.loop-i.invariant in
    let small : c.loop-i.number * length c.sectors.result.now + c.from.result < 2 ^ 32 = omega (arith, m.below) in
    search rules

pub loop-i-preserved : goal.loop-i-preserved
loop-i-preserved g c =
    (number_more c.args.legs.now c.args.tuple.now c.loop-i.i c.loop-i.number (length c.sectors.result.now) c.from.result c.index-legs-i.result c.known_all.ensures c.requires.tuple c.requires.count (omega arith) c.index-legs-i.is (ap length c.sectors.ensures) c.from.ensures c.loop-i.invariant).next

pub returns-clause-below : goal.returns-clause-below
returns-clause-below g c =
    let is = number_all c.args.legs.now c.args.tuple.now c.loop-i.i c.loop-i.number (omega arith) c.loop-i.invariant in
    omega (arith, is, (rank_is c.args.legs.now c.args.tuple.now c.requires.tuple).0)
