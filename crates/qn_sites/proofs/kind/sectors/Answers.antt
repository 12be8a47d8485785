use Rattle.std.proofs.Common.{lit<}
use Rattle.qn_sites.proofs.kind.sectors.Goals as goal

pub new-requires : goal.new-requires
new-requires g c = (lit< tt, (c.requires.few, c.requires.arity c.loop-charge.charge-index _ c.loop-charge-test.true))
