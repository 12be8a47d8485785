use Rattle.std.proofs.Common.{◌≡◌, ◌++◌, drop}
use Rattle.qn_engine.specs.Fusing.{ends_of}
use Rattle.qn_engine.proofs.fusing.ends_of.Given as goal

abbrev pub invariant-loop-i : goal.invariant-loop-i
invariant-loop-i g l = l.ends.items ++ ends_of (drop l.i l.legs) (drop l.i l.labels) ≡ ends_of l.legs l.labels
