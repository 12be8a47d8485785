use Rattle.std.proofs.Common.{rules, arith, ◌<◌, ◌≡◌, ◌-◌, ◌*◌, ◌^◌, ap, length, lit<, get_or, false, refl}
use Rattle.qn_index.specs.Legs.{LegValue}
use Rattle.qn_index.proofs.Nets.{tuple_length, tuple_at}
use Rattle.qn_match.proofs.LeftSizes.{left_from, left_back, left_from_le}
use Rattle.qn_match.proofs.counting.left_size.Goals as goal

pub bounds-tuple-i : goal.bounds-tuple-i
bounds-tuple-i g c = omega (arith, tuple_length c.args.legs.now c.args.tuple.now c.requires.tuple)

pub dim_left-size-requires : goal.dim_left-size-requires
dim_left-size-requires g c =
    let in_range = tuple_at c.args.legs.now c.args.tuple.now (c.loop-i.i - 1) c.index-legs-i.result c.requires.tuple (omega arith) in
    let sectors = ap (λ (l : LegValue). length l.sectors) c.index-legs-i.is in
    (lit< tt, omega (arith, in_range, sectors))

pub overflow_mul-size : goal.overflow_mul-size
overflow_mul-size g c =
    let ms = c.args.marks.now in
    let ls = c.args.legs.now in
    let t = c.args.tuple.now in
    let e : c.loop-i.size * c.dim_left-size.result ≡ left_from ms ls t (c.loop-i.i - 1) =
    left_back ms ls t c.loop-i.i c.index-legs-i.result (get_or ms (c.loop-i.i - 1) false) c.loop-i.size c.dim_left-size.result c.requires.tuple c.requires.count (omega arith) (omega arith) c.index-legs-i.is refl c.dim_left-size.ensures c.loop-i.invariant in
    let small : c.loop-i.size * c.dim_left-size.result < 2 ^ 64 = omega (arith, e, left_from_le ms ls t (c.loop-i.i - 1) c.known_all.ensures c.requires.tuple c.requires.count, c.requires.small) in
    search rules

pub loop-i-preserved : goal.loop-i-preserved
loop-i-preserved g c =
    left_back c.args.marks.now c.args.legs.now c.args.tuple.now c.loop-i.i c.index-legs-i.result (get_or c.args.marks.now (c.loop-i.i - 1) false) c.loop-i.size c.dim_left-size.result c.requires.tuple c.requires.count (omega arith) (omega arith) c.index-legs-i.is refl c.dim_left-size.ensures c.loop-i.invariant

pub returns-clause-small : goal.returns-clause-small
returns-clause-small g c =
    omega (arith, c.loop-i.invariant, left_from_le c.args.marks.now c.args.legs.now c.args.tuple.now c.loop-i.i c.known_all.ensures c.requires.tuple c.requires.count)
