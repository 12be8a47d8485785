use Rattle.std.proofs.Common.{◌≡◌, drop}
use Rattle.qn_block.specs.Tables.{odd_inward}
use Rattle.qn_engine.proofs.fusing.odd_inward.Given as goal

abbrev pub invariant-loop-i : goal.invariant-loop-i
invariant-loop-i g l = l.odd ≡ odd_inward l.group (drop l.i l.legs) (drop l.i l.values)
