use Rattle.std.proofs.Common.{rules, arith, ◌≡◌, ◌∙◌, ◌<◌, ◌+◌, ◌*◌, ◌%◌, ◌^◌, ap, length, lit<, get_or}
use Rattle.qn_index.specs.Legs.{LegValue, sector_at}
use Rattle.qn_index.proofs.Nets.{tuple_length, tuple_at}
use Rattle.qn_block.proofs.Mirror.{mirror_more, mirror_end, mirror_place}
use Rattle.qn_block.proofs.conjugate.mirrored_place.Goals as goal

pub bounds-tuple-i : goal.bounds-tuple-i
bounds-tuple-i g c = omega (arith, tuple_length c.args.legs.now c.args.tuple.now c.requires.tuple)

pub dim_at-requires : goal.dim_at-requires
dim_at-requires g c =
    let in_range = tuple_at c.args.legs.now c.args.tuple.now c.loop-i.i c.index-legs-i.result c.requires.tuple (omega arith) in
    let sectors = ap (λ (l : LegValue). length l.sectors) c.index-legs-i.is in
    (lit< tt, omega (arith, in_range, sectors))

pub overflow_mul-found : goal.overflow_mul-found
overflow_mul-found g c =
    let ls = c.args.legs.now in
    let t = c.args.tuple.now in
    let dim : c.from-dim.result ≡ (sector_at c.index-legs-i.result.sectors (get_or t c.loop-i.i 0)).dim = c.from-dim.ensures ∙ c.dim_at.ensures in
    let m = mirror_more ls t c.loop-i.i c.args.place c.loop-i.found c.loop-i.rest c.from-dim.result c.index-legs-i.result c.known_all.ensures c.requires.tuple (omega arith) c.index-legs-i.is dim c.loop-i.invariant in
    let small : c.loop-i.found * c.from-dim.result < 2 ^ 64 = omega (arith, m.fits, c.requires.small) in
    search rules

pub overflow_add-found : goal.overflow_add-found
overflow_add-found g c =
    let ls = c.args.legs.now in
    let t = c.args.tuple.now in
    let dim : c.from-dim.result ≡ (sector_at c.index-legs-i.result.sectors (get_or t c.loop-i.i 0)).dim = c.from-dim.ensures ∙ c.dim_at.ensures in
    let m = mirror_more ls t c.loop-i.i c.args.place c.loop-i.found c.loop-i.rest c.from-dim.result c.index-legs-i.result c.known_all.ensures c.requires.tuple (omega arith) c.index-legs-i.is dim c.loop-i.invariant in
    let small : c.loop-i.found * c.from-dim.result + c.loop-i.rest % c.from-dim.result < 2 ^ 64 = omega (arith, m.fits, c.requires.small) in
    search rules

pub nonzero_rem-found : goal.nonzero_rem-found
nonzero_rem-found g c =
    let ls = c.args.legs.now in
    let t = c.args.tuple.now in
    let dim : c.from-dim.result ≡ (sector_at c.index-legs-i.result.sectors (get_or t c.loop-i.i 0)).dim = c.from-dim.ensures ∙ c.dim_at.ensures in
    let m = mirror_more ls t c.loop-i.i c.args.place c.loop-i.found c.loop-i.rest c.from-dim.result c.index-legs-i.result c.known_all.ensures c.requires.tuple (omega arith) c.index-legs-i.is dim c.loop-i.invariant in
    m.some

pub nonzero_div-rest : goal.nonzero_div-rest
nonzero_div-rest g c =
    let ls = c.args.legs.now in
    let t = c.args.tuple.now in
    let dim : c.from-dim.result ≡ (sector_at c.index-legs-i.result.sectors (get_or t c.loop-i.i 0)).dim = c.from-dim.ensures ∙ c.dim_at.ensures in
    let m = mirror_more ls t c.loop-i.i c.args.place c.loop-i.found c.loop-i.rest c.from-dim.result c.index-legs-i.result c.known_all.ensures c.requires.tuple (omega arith) c.index-legs-i.is dim c.loop-i.invariant in
    m.some

pub loop-i-preserved : goal.loop-i-preserved
loop-i-preserved g c =
    let ls = c.args.legs.now in
    let t = c.args.tuple.now in
    let dim : c.from-dim.result ≡ (sector_at c.index-legs-i.result.sectors (get_or t c.loop-i.i 0)).dim = c.from-dim.ensures ∙ c.dim_at.ensures in
    let m = mirror_more ls t c.loop-i.i c.args.place c.loop-i.found c.loop-i.rest c.from-dim.result c.index-legs-i.result c.known_all.ensures c.requires.tuple (omega arith) c.index-legs-i.is dim c.loop-i.invariant in
    m.next

pub returns-clause-place : goal.returns-clause-place
returns-clause-place g c =
    let last = mirror_end c.args.legs.now c.args.tuple.now c.loop-i.i c.args.place c.loop-i.found c.loop-i.rest (omega arith) c.loop-i.invariant in
    mirror_place c.args.legs.now c.args.tuple.now c.args.place c.loop-i.found c.requires.tuple last.0

pub returns-clause-below : goal.returns-clause-below
returns-clause-below g c = (mirror_end c.args.legs.now c.args.tuple.now c.loop-i.i c.args.place c.loop-i.found c.loop-i.rest (omega arith) c.loop-i.invariant).1
