use Rattle.qn_block.proofs.Fusing.{IsTurned}
use Rattle.qn_block.proofs.starts.fused_parts.Given as goal

abbrev pub invariant-loop-i : goal.invariant-loop-i
invariant-loop-i g l = IsTurned l.group l.legs l.dir l.charges l.i l.next l.sectors.items l.starts.items
