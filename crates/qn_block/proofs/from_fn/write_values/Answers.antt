use Rattle.std.proofs.Common.{rules, arith, ◌≡◌, ◌∙◌, ◌<◌, ◌/◌, ◌^◌, ap, length, lit<, get_or}
use Rattle.qn_index.specs.Legs.{LegValue, sector_at}
use Rattle.qn_index.proofs.Nets.{tuple_length, tuple_at}
use Rattle.qn_block.proofs.Written.{written_more}
use Rattle.qn_block.proofs.from_fn.write_values.Goals as goal

pub bounds-tuple-i : goal.bounds-tuple-i
bounds-tuple-i g c = omega (arith, tuple_length c.args.legs.now c.args.tuple.now c.requires.tuple)

pub dim_at-requires : goal.dim_at-requires
dim_at-requires g c =
    let in_range = tuple_at c.args.legs.now c.args.tuple.now c.loop-i.i c.index-legs-i.result c.requires.tuple (omega arith) in
    let sectors = ap (λ (l : LegValue). length l.sectors) c.index-legs-i.is in
    (lit< tt, omega (arith, in_range, sectors))

pub nonzero_div-size : goal.nonzero_div-size
nonzero_div-size g c =
    let ls = c.args.legs.now in
    let t = c.args.tuple.now in
    let dim : c.from-size.result ≡ (sector_at c.index-legs-i.result.sectors (get_or t c.loop-i.i 0)).dim = c.from-size.ensures ∙ c.dim_at.ensures in
    let m = written_more ls t c.loop-i.i c.args.place c.loop-i.size c.loop-i.rest c.from-size.result c.loop-i.values c.index-legs-i.result c.requires.tuple (omega arith) c.index-legs-i.is dim c.loop-i.invariant in
    m.dim

pub nonzero_div-rest : goal.nonzero_div-rest
nonzero_div-rest g c =
    let ls = c.args.legs.now in
    let t = c.args.tuple.now in
    let dim : c.from-size.result ≡ (sector_at c.index-legs-i.result.sectors (get_or t c.loop-i.i 0)).dim = c.from-size.ensures ∙ c.dim_at.ensures in
    let m = written_more ls t c.loop-i.i c.args.place c.loop-i.size c.loop-i.rest c.from-size.result c.loop-i.values c.index-legs-i.result c.requires.tuple (omega arith) c.index-legs-i.is dim c.loop-i.invariant in
    m.size

pub nonzero_rem-rest : goal.nonzero_rem-rest
nonzero_rem-rest g c =
    let ls = c.args.legs.now in
    let t = c.args.tuple.now in
    let dim : c.from-size.result ≡ (sector_at c.index-legs-i.result.sectors (get_or t c.loop-i.i 0)).dim = c.from-size.ensures ∙ c.dim_at.ensures in
    let m = written_more ls t c.loop-i.i c.args.place c.loop-i.size c.loop-i.rest c.from-size.result c.loop-i.values c.index-legs-i.result c.requires.tuple (omega arith) c.index-legs-i.is dim c.loop-i.invariant in
    m.size

pub overflow_cast-rest : goal.overflow_cast-rest
overflow_cast-rest g c =
    let ls = c.args.legs.now in
    let t = c.args.tuple.now in
    let dim : c.from-size.result ≡ (sector_at c.index-legs-i.result.sectors (get_or t c.loop-i.i 0)).dim = c.from-size.ensures ∙ c.dim_at.ensures in
    let m = written_more ls t c.loop-i.i c.args.place c.loop-i.size c.loop-i.rest c.from-size.result c.loop-i.values c.index-legs-i.result c.requires.tuple (omega arith) c.index-legs-i.is dim c.loop-i.invariant in
    let small : c.loop-i.rest / (c.loop-i.size / c.from-size.result) < 2 ^ 32 = omega (arith, m.inner, c.from-size.ensures, c.dim_at.type_inv) in
    search rules

pub place_of-requires : goal.place_of-requires
place_of-requires g c =
    let ls = c.args.legs.now in
    let t = c.args.tuple.now in
    let dim : c.from-size.result ≡ (sector_at c.index-legs-i.result.sectors (get_or t c.loop-i.i 0)).dim = c.from-size.ensures ∙ c.dim_at.ensures in
    let m = written_more ls t c.loop-i.i c.args.place c.loop-i.size c.loop-i.rest c.from-size.result c.loop-i.values c.index-legs-i.result c.requires.tuple (omega arith) c.index-legs-i.is dim c.loop-i.invariant in
    let in_range = tuple_at ls t c.loop-i.i c.index-legs-i.result c.requires.tuple (omega arith) in
    let sectors = ap (λ (l : LegValue). length l.sectors) c.index-legs-i.is in
    (lit< tt, (omega (arith, in_range, sectors), omega (arith, m.inner, dim)))

pub loop-i-preserved : goal.loop-i-preserved
loop-i-preserved g c =
    let ls = c.args.legs.now in
    let t = c.args.tuple.now in
    let dim : c.from-size.result ≡ (sector_at c.index-legs-i.result.sectors (get_or t c.loop-i.i 0)).dim = c.from-size.ensures ∙ c.dim_at.ensures in
    let m = written_more ls t c.loop-i.i c.args.place c.loop-i.size c.loop-i.rest c.from-size.result c.loop-i.values c.index-legs-i.result c.requires.tuple (omega arith) c.index-legs-i.is dim c.loop-i.invariant in
    m.next c.place_of.result c.place_of.ensures.place
