use Rattle.std.proofs.Common.{◌≡◌, ◌+◌}
use Rattle.qn_pair.proofs.contraction.tick_all.Given as goal

abbrev pub invariant-loop : goal.invariant-loop
invariant-loop g l = l.steps ≡ l.fn.steps + l.counter
