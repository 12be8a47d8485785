use Rattle.std.proofs.Common.{◌≡◌, ◌++◌, take}
use Rattle.qn_pair.proofs.frame.word_of.Given as goal

abbrev pub invariant-loop-leg : goal.invariant-loop-leg
invariant-loop-leg g l = l.word.items ≡ l.firsts ++ take l.leg-index l.seconds
