use Rattle.std.proofs.Common.{rules, arith, refl, ◌≡◌, ◌/◌, ◌<◌, lit<, get_or, length, subst, sym, ◌∙◌}
use Rattle.qn_index.specs.Legs.{LegValue}
use Rattle.qn_index.proofs.Nets.{tuple_length, tuple_at}
use Rattle.qn_strides.proofs.Striding.{IsKeeping, keeping_first, keeping_more, keeping_all, dim_good}
use Rattle.qn_strides.proofs.plan.kept_of.Goals as goal

pub loop-i-init : goal.loop-i-init
loop-i-init g c =
    subst (IsKeeping c.args.steps.now c.args.left.now c.args.sectors.now c.args.places.now 0 c.block_len-size.result) (sym c.new-kept.ensures.items)
    (keeping_first c.args.steps.now c.args.left.now c.args.sectors.now c.args.places.now c.block_len-size.result c.block_len-size.ensures)

pub bounds-sectors-i : goal.bounds-sectors-i
bounds-sectors-i g c = omega (arith, tuple_length c.args.left.now c.args.sectors.now c.requires.sectors, c.loop-i-test.true)

pub dim_at-requires : goal.dim_at-requires
dim_at-requires g c =
    (lit< tt, subst (λ (l : LegValue). get_or c.args.sectors.now c.loop-i.i 0 < length l.sectors) (sym c.index-left-i.is) (tuple_at c.args.left.now c.args.sectors.now c.loop-i.i c.index-left-i.result c.requires.sectors c.loop-i-test.true))

pub nonzero_div-size : goal.nonzero_div-size
nonzero_div-size g c =
    let d = dim_good c.args.left.now c.args.sectors.now c.loop-i.i c.index-left-i.result c.known_all.ensures c.requires.sectors c.loop-i-test.true c.index-left-i.is in
    omega (arith, d.0, c.dim_at.ensures, c.from-size.ensures)

pub loop-i-preserved : goal.loop-i-preserved
loop-i-preserved g c =
    let d = dim_good c.args.left.now c.args.sectors.now c.loop-i.i c.index-left-i.result c.known_all.ensures c.requires.sectors c.loop-i-test.true c.index-left-i.is in
    let e : c.from-size.result ≡ c.dim_at.result = search rules in
    search (
      rules,
      keeping_more c.args.steps.now c.args.left.now c.args.sectors.now c.args.places.now c.loop-i.i c.loop-i.size c.from-size.result (c.loop-i.size / c.from-size.result) c.stride_at-stride.result c.index-left-i.result c.loop-i.kept.items
          c.known_all.ensures c.requires.sectors c.requires.places c.loop-i-test.true c.index-left-i.is (omega (arith, d.0, e, c.dim_at.ensures)) (e ∙ c.dim_at.ensures) refl c.stride_at-stride.ensures.value c.stride_at-stride.ensures.bound c.loop-i.invariant,
    )

pub returns-clause-value : goal.returns-clause-value
returns-clause-value g c = keeping_all c.args.steps.now c.args.left.now c.args.sectors.now c.args.places.now c.loop-i.i c.loop-i.size c.loop-i.kept.items c.requires.sectors c.requires.places (search rules) c.loop-i.invariant
