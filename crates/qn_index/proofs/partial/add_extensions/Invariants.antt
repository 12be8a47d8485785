use Rattle.std.proofs.Common.{◌≡◌, ◌++◌, ◌-◌, length}
use Rattle.qn_index.specs.Tuples.{upward}
use Rattle.qn_index.specs.Weights.{extensions}
use Rattle.qn_index.proofs.partial.add_extensions.Given as goal

abbrev pub invariant-loop-s : goal.invariant-loop-s
invariant-loop-s g l = l.out.items ++ extensions l.group l.leg l.table l.partial (upward l.s (length l.leg.sectors - l.s)) ≡ l.fn.out.items ++ extensions l.group l.leg l.table l.partial (upward 0 (length l.leg.sectors))
