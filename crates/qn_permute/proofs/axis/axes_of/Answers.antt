use Rattle.std.proofs.Common.{arith, ◌<◌, ◌+◌, ◌/◌, ap, sym, subst, length, lit<, get_or}
use Rattle.qn_index.specs.Legs.{LegValue, no_sector, sector_at}
use Rattle.qn_index.proofs.Nets.{tuple_length, tuple_at}
use Rattle.qn_permute.proofs.Lines.{AreAxes, axes_more}
use Rattle.qn_permute.proofs.axis.axes_of.Goals as goal

pub bounds-tuple-i : goal.bounds-tuple-i
bounds-tuple-i g c = omega (arith, tuple_length c.args.legs.now c.args.tuple.now c.requires.tuple)

pub dim_at-len-requires : goal.dim_at-len-requires
dim_at-len-requires g c =
    let in_range = tuple_at c.args.legs.now c.args.tuple.now c.loop-i.i c.index-legs-i.result c.requires.tuple (omega arith) in
    let sectors = ap (λ (l : LegValue). length l.sectors) c.index-legs-i.is in
    (lit< tt, omega (arith, in_range, sectors))

pub nonzero_div-size : goal.nonzero_div-size
nonzero_div-size g c =
    let lt : c.loop-i.i < length c.args.legs.now = omega arith in
    let t = get_or c.args.tuple.now c.loop-i.i 0 in
    let in_range = tuple_at c.args.legs.now c.args.tuple.now c.loop-i.i c.index-legs-i.result c.requires.tuple lt in
    let some = ((c.known_all.ensures c.loop-i.i c.index-legs-i.result lt).dims t no_sector in_range).0 in
    let here = ap (λ (l : LegValue). (sector_at l.sectors t).dim) c.index-legs-i.is in
    omega (arith, some, here, c.dim_at-len.ensures)

pub loop-i-preserved : goal.loop-i-preserved
loop-i-preserved g c =
    let lt : c.loop-i.i < length c.args.legs.now = omega arith in
    let t = get_or c.args.tuple.now c.loop-i.i 0 in
    let in_range = tuple_at c.args.legs.now c.args.tuple.now c.loop-i.i c.index-legs-i.result c.requires.tuple lt in
    let some = ((c.known_all.ensures c.loop-i.i c.index-legs-i.result lt).dims t no_sector in_range).0 in
    let here = ap (λ (l : LegValue). (sector_at l.sectors t).dim) c.index-legs-i.is in
    subst (AreAxes c.args.legs.now c.args.tuple.now (c.loop-i.i + 1) (c.loop-i.size / c.dim_at-len.result)) (sym c.in_ok-push.ensures.items)
    (axes_more c.args.legs.now c.args.tuple.now c.loop-i.i c.loop-i.size c.dim_at-len.result c.loop-i.out.items c.index-legs-i.result c.requires.tuple lt c.index-legs-i.is c.dim_at-len.ensures (omega (arith, some, here, c.dim_at-len.ensures)) c.loop-i.invariant)
