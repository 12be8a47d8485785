use Rattle.std.proofs.Common.{◌≡◌, take, map}
use Rattle.qn_plan.proofs.fusing.labels_of.Given as goal

abbrev pub invariant-loop-e : goal.invariant-loop-e
invariant-loop-e l = l.labels.items ≡ map (λ e. e.label) (take l.e-index l.ends)
