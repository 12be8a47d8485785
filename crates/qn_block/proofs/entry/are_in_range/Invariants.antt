use Rattle.qn_block.proofs.Lookup.{IsSameRange}
use Rattle.qn_block.proofs.entry.are_in_range.Given as goal

abbrev pub invariant-loop-i : goal.invariant-loop-i
invariant-loop-i g l = IsSameRange l.legs l.values l.i
