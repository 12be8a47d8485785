use Rattle.std.proofs.Common.{length}
use Rattle.qn_sign.proofs.Positions.{IsSigned}
use Rattle.qn_sign.proofs.signs.exchange.Given as goal

abbrev pub invariant-loop-rest : goal.invariant-loop-rest
invariant-loop-rest l = IsSigned l.odd l.goal l.rest l.minus

abbrev pub decreases-loop-rest : goal.decreases-loop-rest
decreases-loop-rest l = length l.rest
