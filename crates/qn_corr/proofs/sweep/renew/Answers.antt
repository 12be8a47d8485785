use Rattle.std.proofs.Common.{arith}
use Rattle.qn_corr.proofs.sweep.renew.Goals as goal

pub unreachable-requires : goal.unreachable-requires
unreachable-requires g c = omega (arith, c.in-Err.ensures.full, c.truncate.ensures.len, c.truncate.ensures.capacity, c.in_ok-reserve.ensures.ok)
