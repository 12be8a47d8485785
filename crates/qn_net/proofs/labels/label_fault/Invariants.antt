use Rattle.std.proofs.Common.{ℕ, ◌<◌}
use Rattle.qn_net.specs.Refusals.{BadMemberAt}
use Rattle.qn_net.proofs.labels.label_fault.Given as goal

abbrev pub invariant-loop-i : goal.invariant-loop-i
invariant-loop-i g l = (k : ℕ) → k < l.i → BadMemberAt l.tensors k → ⊥
