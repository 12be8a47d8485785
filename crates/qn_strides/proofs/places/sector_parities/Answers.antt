use Rattle.std.proofs.Common.{rules, arith, ◌<◌, lit<, get_or, length, subst, sym}
use Rattle.qn_index.specs.Legs.{LegValue}
use Rattle.qn_index.proofs.Nets.{tuple_length, tuple_at}
use Rattle.qn_strides.proofs.Placing.{parities_more, parities_all}
use Rattle.qn_strides.proofs.places.sector_parities.Goals as goal

pub bounds-tuple-i : goal.bounds-tuple-i
bounds-tuple-i g c = omega (arith, tuple_length c.args.legs.now c.args.tuple.now c.requires.tuple, c.loop-i-test.true)

pub charge-charge-requires : goal.charge-charge-requires
charge-charge-requires g c =
    (lit< tt, (lit< tt, subst (λ (l : LegValue). get_or c.args.tuple.now c.loop-i.i 0 < length l.sectors) (sym c.index-legs-i.is) (tuple_at c.args.legs.now c.args.tuple.now c.loop-i.i c.index-legs-i.result c.requires.tuple c.loop-i-test.true)))

pub loop-i-preserved : goal.loop-i-preserved
loop-i-preserved g c =
    search (rules, parities_more c.args.group.now c.args.legs.now c.args.tuple.now c.loop-i.i c.index-legs-i.result c.parity.result c.loop-i.parities.items c.requires.tuple c.loop-i-test.true c.index-legs-i.is c.loop-i.invariant (search rules))

pub returns : goal.returns
returns g c = parities_all c.args.group.now c.args.legs.now c.args.tuple.now c.loop-i.i c.loop-i.parities.items c.requires.tuple (search rules) c.loop-i.invariant
