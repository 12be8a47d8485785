use Rattle.std.proofs.Common.{◌≡◌}
use Rattle.qn_net.specs.Refusals.{positives_below}
use Rattle.qn_net.proofs.lines.ascending.Given as goal

abbrev pub invariant-loop-n : goal.invariant-loop-n
invariant-loop-n l = l.order.items ≡ positives_below l.table l.n
