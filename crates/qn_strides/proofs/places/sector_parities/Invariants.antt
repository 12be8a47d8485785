use Rattle.std.proofs.Common.{◌≡◌, take}
use Rattle.qn_strides.specs.Strides.{sector_parities}
use Rattle.qn_strides.proofs.places.sector_parities.Given as goal

abbrev pub invariant-loop-i : goal.invariant-loop-i
invariant-loop-i g l = l.parities.items ≡ take l.i (sector_parities l.group l.legs l.tuple)
