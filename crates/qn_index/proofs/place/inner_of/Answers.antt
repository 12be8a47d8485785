use Rattle.std.proofs.Common.{rules, arith, ◌∙◌, ◌<◌, ◌+◌, ◌/◌, ◌%◌, ◌^◌, ap, sym, subst, length, lit<, ℕ, List}
use Rattle.qn_index.specs.Legs.{LegValue}
use Rattle.qn_index.proofs.Nets.{tuple_length, tuple_at}
use Rattle.qn_index.specs.Places.{IsInner, offset_of}
use Rattle.qn_index.proofs.Places.{IsMade, made_more, made_all, inner_in, offset_of_inner}
use Rattle.qn_index.proofs.place.inner_of.Goals as goal

pub bounds-tuple-i : goal.bounds-tuple-i
bounds-tuple-i g c = omega (arith, tuple_length c.args.legs.now c.args.tuple.now c.requires.tuple)

pub dim_at-dim-requires : goal.dim_at-dim-requires
dim_at-dim-requires g c =
    let in_range = tuple_at c.args.legs.now c.args.tuple.now c.loop-i.i c.index-legs-i.result c.requires.tuple (omega arith) in
    let sectors = ap (λ (l : LegValue). length l.sectors) c.index-legs-i.is in
    (lit< tt, omega (arith, in_range, sectors))

pub nonzero_div-size : goal.nonzero_div-size
nonzero_div-size g c =
    let m = made_more c.args.legs.now c.args.tuple.now c.loop-i.i c.args.offset c.loop-i.size c.loop-i.rest c.loop-i.inner.items c.index-legs-i.result c.from-size.result c.requires.tuple (omega arith) c.index-legs-i.is (c.from-size.ensures ∙ c.dim_at-dim.ensures) c.loop-i.invariant in
    m.0

pub nonzero_div-rest : goal.nonzero_div-rest
nonzero_div-rest g c =
    let m = made_more c.args.legs.now c.args.tuple.now c.loop-i.i c.args.offset c.loop-i.size c.loop-i.rest c.loop-i.inner.items c.index-legs-i.result c.from-size.result c.requires.tuple (omega arith) c.index-legs-i.is (c.from-size.ensures ∙ c.dim_at-dim.ensures) c.loop-i.invariant in
    m.1

pub nonzero_rem-rest : goal.nonzero_rem-rest
nonzero_rem-rest g c =
    let m = made_more c.args.legs.now c.args.tuple.now c.loop-i.i c.args.offset c.loop-i.size c.loop-i.rest c.loop-i.inner.items c.index-legs-i.result c.from-size.result c.requires.tuple (omega arith) c.index-legs-i.is (c.from-size.ensures ∙ c.dim_at-dim.ensures) c.loop-i.invariant in
    m.1

pub overflow_cast-rest : goal.overflow_cast-rest
overflow_cast-rest g c =
    let m = made_more c.args.legs.now c.args.tuple.now c.loop-i.i c.args.offset c.loop-i.size c.loop-i.rest c.loop-i.inner.items c.index-legs-i.result c.from-size.result c.requires.tuple (omega arith) c.index-legs-i.is (c.from-size.ensures ∙ c.dim_at-dim.ensures) c.loop-i.invariant in
    let small : c.loop-i.rest / (c.loop-i.size / c.from-size.result) < 2 ^ 32 = omega (arith, m.2, c.from-size.ensures, c.dim_at-dim.type_inv) in
    search rules

pub loop-i-preserved : goal.loop-i-preserved
loop-i-preserved g c =
    let m = made_more c.args.legs.now c.args.tuple.now c.loop-i.i c.args.offset c.loop-i.size c.loop-i.rest c.loop-i.inner.items c.index-legs-i.result c.from-size.result c.requires.tuple (omega arith) c.index-legs-i.is (c.from-size.ensures ∙ c.dim_at-dim.ensures) c.loop-i.invariant in
    subst (λ (v : List ℕ). IsMade c.args.legs.now c.args.tuple.now (c.loop-i.i + 1) c.args.offset (c.loop-i.size / c.from-size.result) (c.loop-i.rest % (c.loop-i.size / c.from-size.result)) v) (sym c.in_ok-push.ensures.items) m.3

pub returns-clause-in_range : goal.returns-clause-in_range
returns-clause-in_range g c =
    let all = made_all c.args.legs.now c.args.tuple.now c.loop-i.i c.args.offset c.loop-i.size c.loop-i.rest c.loop-i.inner.items (omega arith) c.loop-i.invariant in
    subst (λ (v : List ℕ). IsInner c.args.legs.now c.args.tuple.now v) (sym (c.new.ensures ∙ all)) (inner_in c.args.legs.now c.args.tuple.now c.args.offset c.requires.tuple c.requires.offset)

pub returns-clause-inverse : goal.returns-clause-inverse
returns-clause-inverse g c =
    let all = made_all c.args.legs.now c.args.tuple.now c.loop-i.i c.args.offset c.loop-i.size c.loop-i.rest c.loop-i.inner.items (omega arith) c.loop-i.invariant in
    ap (offset_of c.args.legs.now c.args.tuple.now) (c.new.ensures ∙ all) ∙ offset_of_inner c.args.legs.now c.args.tuple.now c.args.offset c.requires.tuple c.requires.offset
