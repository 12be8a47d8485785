use Rattle.std.proofs.Common.{rules, arith, refl, ◌/◌, ◌≡◌, ◌<◌, lit<, get_or, length, subst, sym, ◌∙◌, List, ℕ, ◌≤◌}
use Rattle.std.specs.List.{All}
use Rattle.qn_index.specs.Legs.{LegValue}
use Rattle.qn_index.proofs.Nets.{tuple_length, tuple_at}
use Rattle.qn_strides.proofs.Striding.{striding_more, striding_all, dim_good, strides_small}
use Rattle.qn_strides.proofs.plan.strides_of.Goals as goal

pub bounds-tuple-i : goal.bounds-tuple-i
bounds-tuple-i g c = omega (arith, tuple_length c.args.legs.now c.args.tuple.now c.requires.tuple, c.loop-i-test.true)

pub dim_at-requires : goal.dim_at-requires
dim_at-requires g c =
    (lit< tt, subst (λ (l : LegValue). get_or c.args.tuple.now c.loop-i.i 0 < length l.sectors) (sym c.index-legs-i.is) (tuple_at c.args.legs.now c.args.tuple.now c.loop-i.i c.index-legs-i.result c.requires.tuple c.loop-i-test.true))

pub nonzero_div-size : goal.nonzero_div-size
nonzero_div-size g c =
    let d = dim_good c.args.legs.now c.args.tuple.now c.loop-i.i c.index-legs-i.result c.known_all.ensures c.requires.tuple c.loop-i-test.true c.index-legs-i.is in
    omega (arith, d.0, c.dim_at.ensures, c.from-size.ensures)

pub loop-i-preserved : goal.loop-i-preserved
loop-i-preserved g c =
    let d = dim_good c.args.legs.now c.args.tuple.now c.loop-i.i c.index-legs-i.result c.known_all.ensures c.requires.tuple c.loop-i-test.true c.index-legs-i.is in
    let e : c.from-size.result ≡ c.dim_at.result = search rules in
    search (rules, striding_more c.args.legs.now c.args.tuple.now c.loop-i.i c.loop-i.size c.from-size.result (c.loop-i.size / c.from-size.result) c.index-legs-i.result c.loop-i.strides.items c.requires.tuple c.loop-i-test.true c.index-legs-i.is (omega (arith, d.0, e, c.dim_at.ensures)) (e ∙ c.dim_at.ensures) refl c.loop-i.invariant)

pub returns-clause-value : goal.returns-clause-value
returns-clause-value g c = striding_all c.args.legs.now c.args.tuple.now c.loop-i.i c.loop-i.size c.loop-i.strides.items c.requires.tuple (search rules) c.loop-i.invariant

pub returns-clause-small : goal.returns-clause-small
returns-clause-small g c =
    subst (λ (ws : List ℕ). All (λ w. w ≤ 4194304) ws) (sym (returns-clause-value g c)) (strides_small c.args.legs.now c.args.tuple.now 4194304 c.known_all.ensures c.requires.tuple c.requires.small)
