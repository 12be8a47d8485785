use Rattle.std.proofs.Common.{◌+◌, ◌∷◌, reverse}
use Rattle.qn_engine.proofs.FusedArrays.{IsFilled}
use Rattle.qn_engine.proofs.fusing.fuse_values.Given as goal

abbrev pub invariant-loop-i : goal.invariant-loop-i
invariant-loop-i g l = IsFilled 64 (l.i + 1) l.values (l.value ∷ reverse l.found)
