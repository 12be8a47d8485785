use Rattle.std.proofs.Common.{◌++◌, ◌∷◌, []}
use Rattle.qn_engine.proofs.FusedArrays.{IsFilled}
use Rattle.qn_engine.proofs.fusing.split_values.Given as goal

abbrev pub invariant-loop-i : goal.invariant-loop-i
invariant-loop-i g l = IsFilled 64 l.i l.values (l.left ++ (l.value ∷ []))
