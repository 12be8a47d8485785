use Rattle.std.proofs.Common.{◌≡◌, take}
use Rattle.qn_permute.specs.Moved.{sector_parities}
use Rattle.qn_permute.proofs.block.parities_of.Given as goal

abbrev pub invariant-loop-i : goal.invariant-loop-i
invariant-loop-i g l = l.out.items ≡ take l.i (sector_parities l.group l.legs l.tuple)
