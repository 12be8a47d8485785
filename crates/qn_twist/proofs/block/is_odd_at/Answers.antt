use Rattle.std.proofs.Common.{lit<}
use Rattle.qn_twist.proofs.Places.{at}
use Rattle.qn_twist.proofs.block.is_odd_at.Goals as goal

pub bounds-tuple-place : goal.bounds-tuple-place
bounds-tuple-place g c = (at c.args.legs.now c.args.tuple.now c.args.place c.index-legs-place.result c.requires.tuple c.requires.place c.index-legs-place.is).within

pub charge-requires : goal.charge-requires
charge-requires g c = (lit< tt, (lit< tt, (at c.args.legs.now c.args.tuple.now c.args.place c.index-legs-place.result c.requires.tuple c.requires.place c.index-legs-place.is).sector))
