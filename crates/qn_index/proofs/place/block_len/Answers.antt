use Rattle.std.proofs.Common.{rules, arith, ◌∙◌, ◌<◌, ◌-◌, ◌*◌, ◌^◌, ap, length, lit<}
use Rattle.qn_index.specs.Legs.{LegValue}
use Rattle.qn_index.proofs.Nets.{tuple_length, tuple_at}
use Rattle.qn_index.proofs.Places.{size_back, block_drop_le}
use Rattle.qn_index.proofs.place.block_len.Goals as goal

pub bounds-tuple-i : goal.bounds-tuple-i
bounds-tuple-i g c = omega (arith, tuple_length c.args.legs.now c.args.tuple.now c.requires.tuple)

pub dim_at-dim-requires : goal.dim_at-dim-requires
dim_at-dim-requires g c =
    let in_range = tuple_at c.args.legs.now c.args.tuple.now (c.loop-i.i - 1) c.index-legs-i.result c.requires.tuple (omega arith) in
    let sectors = ap (λ (l : LegValue). length l.sectors) c.index-legs-i.is in
    (lit< tt, omega (arith, in_range, sectors))

pub overflow_mul-size : goal.overflow_mul-size
overflow_mul-size g c =
    let e = size_back c.args.legs.now c.args.tuple.now c.loop-i.i c.index-legs-i.result c.loop-i.size c.from-size.result c.requires.tuple (omega arith) (omega arith) c.index-legs-i.is (c.from-size.ensures ∙ c.dim_at-dim.ensures) c.loop-i.invariant in
    let small : c.loop-i.size * c.from-size.result < 2 ^ 64 = omega (arith, e, block_drop_le c.args.legs.now c.args.tuple.now (c.loop-i.i - 1) c.known_all.ensures c.requires.tuple, c.requires.small) in
    search rules

pub loop-i-preserved : goal.loop-i-preserved
loop-i-preserved g c =
    size_back c.args.legs.now c.args.tuple.now c.loop-i.i c.index-legs-i.result c.loop-i.size c.from-size.result c.requires.tuple (omega arith) (omega arith) c.index-legs-i.is (c.from-size.ensures ∙ c.dim_at-dim.ensures) c.loop-i.invariant
