use Rattle.std.proofs.Common.{◌≡◌, ◌++◌, map, take, drop}
use Rattle.qn_gauss.specs.Gaussian.{neg_g}
use Rattle.qn_twist.proofs.block.negate.Given as goal

abbrev pub invariant-loop-i : goal.invariant-loop-i
invariant-loop-i l = l.entries.items ≡ map neg_g (take l.i l.initial.entries.items) ++ drop l.i l.initial.entries.items
