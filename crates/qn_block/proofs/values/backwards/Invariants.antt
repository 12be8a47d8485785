use Rattle.std.proofs.Common.{reverse}
use Rattle.qn_block.proofs.Lookup.{IsFilledTo}
use Rattle.qn_block.proofs.values.backwards.Given as goal

abbrev pub invariant-loop-i : goal.invariant-loop-i
invariant-loop-i l = IsFilledTo l.i l.turned (reverse l.values)
