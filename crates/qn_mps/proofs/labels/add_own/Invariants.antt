use Rattle.std.proofs.Common.{◌≡◌, ◌++◌, map, take}
use Rattle.qn_mps.specs.Labels.{label}
use Rattle.qn_mps.proofs.labels.add_own.Given as goal

abbrev pub invariant-loop-line : goal.invariant-loop-line
invariant-loop-line l = l.labels.items ≡ l.initial.labels.items ++ map (λ x. label x l.site) (take l.line-index l.own)
