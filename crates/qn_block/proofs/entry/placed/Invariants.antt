use Rattle.qn_index.specs.Places.{sectors_at}
use Rattle.qn_block.specs.Blocked.{offsets_at}
use Rattle.qn_block.proofs.Lookup.{IsFilledTo}
use Rattle.qn_block.proofs.entry.placed.Given as goal

abbrev pub invariant-loop-i : goal.invariant-loop-i
invariant-loop-i g l = IsFilledTo l.i l.sectors (sectors_at l.legs l.values) × IsFilledTo l.i l.offsets (offsets_at l.legs l.values)
