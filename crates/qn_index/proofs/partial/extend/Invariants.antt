use Rattle.std.proofs.Common.{◌≡◌, ◌++◌, length, drop}
use Rattle.std.specs.List.{flat_map}
use Rattle.qn_index.specs.Tuples.{upward}
use Rattle.qn_index.specs.Weights.{PartialValue, extensions}
use Rattle.qn_index.proofs.partial.extend.Given as goal

abbrev pub invariant-loop-p : goal.invariant-loop-p
invariant-loop-p g l = l.out.items ++ flat_map (λ (p : PartialValue). extensions l.group l.leg l.table p (upward 0 (length l.leg.sectors))) (drop l.p-index l.partials) ≡ flat_map (λ (p : PartialValue). extensions l.group l.leg l.table p (upward 0 (length l.leg.sectors))) l.partials
