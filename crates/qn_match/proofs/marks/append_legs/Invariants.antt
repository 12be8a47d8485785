use Rattle.qn_match.proofs.Lefts.{AreLeft}
use Rattle.qn_match.proofs.marks.append_legs.Given as goal

abbrev pub invariant-loop-i : goal.invariant-loop-i
invariant-loop-i g l = AreLeft l.marks l.legs l.initial.out.items l.out.items l.i
