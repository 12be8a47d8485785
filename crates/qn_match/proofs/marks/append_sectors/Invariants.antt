use Rattle.qn_match.proofs.Lefts.{AreLeft}
use Rattle.qn_match.proofs.marks.append_sectors.Given as goal

abbrev pub invariant-loop-i : goal.invariant-loop-i
invariant-loop-i l = AreLeft l.marks l.tuple l.initial.out.items l.out.items l.i
