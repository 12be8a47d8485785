use Rattle.qn_index.proofs.Partials.{IsOpen}
use Rattle.qn_index.proofs.shape.admissible.Given as goal

abbrev pub invariant-loop-i : goal.invariant-loop-i
invariant-loop-i g l = IsOpen l.group l.legs l.flux l.i l.open.items
