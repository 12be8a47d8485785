use Rattle.std.proofs.Common.{arith, ◌<◌, lit<, get_or, length, subst, sym}
use Rattle.qn_index.specs.Legs.{LegValue}
use Rattle.qn_index.proofs.Nets.{tuple_length, tuple_at}
use Rattle.qn_kernel.proofs.paired.paired_at.Goals as goal

pub bounds-tuple-pair : goal.bounds-tuple-pair
bounds-tuple-pair g c = omega (arith, tuple_length c.args.legs.now c.args.tuple.now c.requires.tuple, c.requires.pair)

pub dim_at-len-requires : goal.dim_at-len-requires
dim_at-len-requires g c =
    (lit< tt, subst (λ (l : LegValue). get_or c.args.tuple.now c.args.pair.0 0 < length l.sectors) (sym c.index-legs-pair.is) (tuple_at c.args.legs.now c.args.tuple.now c.args.pair.0 c.index-legs-pair.result c.requires.tuple c.requires.pair))
