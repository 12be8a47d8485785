use Rattle.std.proofs.Common.{◌++◌}
use Rattle.qn_value.specs.Local.{parities}
use Rattle.qn_engine.proofs.FusedArrays.{IsFilled}
use Rattle.qn_engine.proofs.fusing.odd_values.Given as goal

abbrev pub invariant-loop-i : goal.invariant-loop-i
invariant-loop-i g l = IsFilled 128 l.i l.odds (parities l.group l.legs (l.first ++ l.second))
