use Rattle.std.proofs.Common.{ℕ, ◌<◌}
use Rattle.qn_charge.specs.Ranges.{OutOfBound}
use Rattle.qn_charge.proofs.group.Group.out_of.Given as goal

abbrev pub invariant-loop-i : goal.invariant-loop-i
invariant-loop-i g l = (j : ℕ) → j < l.i → OutOfBound l.bound l.self l.c j → ⊥
