use Rattle.std.proofs.Common.{map}
use Rattle.qn_engine.specs.Fusing.{source_value}
use Rattle.qn_engine.proofs.FusedArrays.{IsFilled}
use Rattle.qn_engine.proofs.fusing.tensor_values.Given as goal

abbrev pub invariant-loop-i : goal.invariant-loop-i
invariant-loop-i l = IsFilled 64 l.i l.values (map (source_value l.table l.left) l.sources)
