use Rattle.std.proofs.Common.{◌≡◌, ◌++◌, map, take, drop}
use Rattle.qn_twist.specs.Twisted.{twisted_block}
use Rattle.qn_twist.proofs.tensor.twist_blocks.Given as goal

abbrev pub invariant-loop-i : goal.invariant-loop-i
invariant-loop-i g l = l.blocks.items ≡ map (twisted_block l.group l.legs l.places) (take l.i l.initial.blocks.items) ++ drop l.i l.initial.blocks.items
