use Rattle.std.proofs.Common.{rules, arith, ◌≡◌, ◌∙◌, ◌-◌, ap, length, lit<}
use Rattle.qn_index.specs.Legs.{LegValue}
use Rattle.qn_index.proofs.Nets.{tuple_length, tuple_at}
use Rattle.qn_index.specs.Places.{offset_of, inner_of}
use Rattle.qn_index.proofs.Places.{offset_more, inner_length, inner_of_offset}
use Rattle.qn_index.proofs.place.offset_of.Goals as goal

pub bounds-tuple-i : goal.bounds-tuple-i
bounds-tuple-i g c = omega (arith, tuple_length c.args.legs.now c.args.tuple.now c.requires.tuple)

pub dim_at-dim-requires : goal.dim_at-dim-requires
dim_at-dim-requires g c =
    let in_range = tuple_at c.args.legs.now c.args.tuple.now (c.loop-i.i - 1) c.index-legs-i.result c.requires.tuple (omega arith) in
    let sectors = ap (λ (l : LegValue). length l.sectors) c.index-legs-i.is in
    (lit< tt, omega (arith, in_range, sectors))

pub bounds-inner-i : goal.bounds-inner-i
bounds-inner-i g c = omega (arith, inner_length c.args.legs.now c.args.tuple.now c.args.inner.now c.requires.inner)

pub loop-i-preserved : goal.loop-i-preserved
loop-i-preserved g c =
    offset_more c.args.legs.now c.args.tuple.now c.args.inner.now c.loop-i.i c.index-legs-i.result c.loop-i.size c.loop-i.offset c.from-size.result c.from.result c.known_all.ensures c.requires.tuple c.requires.inner c.requires.small (omega arith) (omega arith) c.index-legs-i.is (c.from-size.ensures ∙ c.dim_at-dim.ensures) c.from.ensures c.loop-i.invariant

pub returns-clause-inverse : goal.returns-clause-inverse
returns-clause-inverse g c =
    let all : c.loop-i.offset ≡ offset_of c.args.legs.now c.args.tuple.now c.args.inner.now = search (rules, c.loop-i.invariant.offset) in
    ap (inner_of c.args.legs.now c.args.tuple.now) all ∙ (inner_of_offset c.args.legs.now c.args.tuple.now c.args.inner.now c.requires.tuple c.requires.inner).1
