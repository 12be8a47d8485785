use Rattle.std.proofs.Common.{◌≡◌, ◌++◌, ◌-◌, length}
use Rattle.qn_index.specs.Tuples.{upward}
use Rattle.qn_index.specs.Weights.{spread}
use Rattle.qn_index.proofs.table.spread.Given as goal

abbrev pub invariant-loop-s : goal.invariant-loop-s
invariant-loop-s g l = l.out.items ++ spread l.group l.leg l.rows (upward l.s (length l.leg.sectors - l.s)) ≡ spread l.group l.leg l.rows (upward 0 (length l.leg.sectors))
