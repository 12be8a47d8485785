use Rattle.std.proofs.Common.{arith, ◌<◌, lit<, get_or, length, subst, sym}
use Rattle.qn_index.specs.Legs.{LegValue}
use Rattle.qn_index.proofs.Nets.{tuple_length, tuple_at}
use Rattle.qn_pair.proofs.frame.dim_in.Goals as goal

pub bounds-tuple-place : goal.bounds-tuple-place
bounds-tuple-place g c = omega (arith, tuple_length c.args.legs.now c.args.tuple.now c.requires.tuple, c.requires.place)

pub dim_at-dim-requires : goal.dim_at-dim-requires
dim_at-dim-requires g c =
    (lit< tt, subst (λ (l : LegValue). get_or c.args.tuple.now c.args.place 0 < length l.sectors) (sym c.index-legs-place.is) (tuple_at c.args.legs.now c.args.tuple.now c.args.place c.index-legs-place.result c.requires.tuple c.requires.place))
