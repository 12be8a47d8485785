use Rattle.std.proofs.Common.{arith, ◌<◌, lit<, get_or, length, subst, sym}
use Rattle.qn_index.specs.Legs.{LegValue}
use Rattle.qn_index.proofs.Nets.{tuple_length, tuple_at}
use Rattle.qn_strides.proofs.Striding.{dim_good}
use Rattle.qn_strides.proofs.plan.summed_pair.Goals as goal

pub bounds-tuple-place : goal.bounds-tuple-place
bounds-tuple-place g c = omega (arith, tuple_length c.args.legs.now c.args.tuple.now c.requires.tuple, c.in_place-place.ensures.within)

pub dim_at-len-requires : goal.dim_at-len-requires
dim_at-len-requires g c =
    (lit< tt, subst (λ (l : LegValue). get_or c.args.tuple.now c.in_place-place.result 0 < length l.sectors) (sym c.index-legs-place.is) (tuple_at c.args.legs.now c.args.tuple.now c.in_place-place.result c.index-legs-place.result c.requires.tuple c.in_place-place.ensures.within))

pub returns-clause-small : goal.returns-clause-small
returns-clause-small g c =
    let d = dim_good c.args.legs.now c.args.tuple.now c.in_place-place.result c.index-legs-place.result c.known_all.ensures c.requires.tuple c.in_place-place.ensures.within c.index-legs-place.is in
    (omega (arith, d.1, c.dim_at-len.ensures, c.from.ensures), omega (arith, c.stride_at-first.ensures.bound, c.stride_at-second.ensures.bound))
