use Rattle.std.proofs.Common.{ℕ, suc, ◌<◌}
use Rattle.qn_mps.specs.StandardLinks.{IsStandardAt}
use Rattle.qn_mps.proofs.chain.Chain.standard.Given as goal

abbrev pub invariant-loop-place : goal.invariant-loop-place
invariant-loop-place g l = (j : ℕ) → suc j < l.place → IsStandardAt l.zero l.tensors j
