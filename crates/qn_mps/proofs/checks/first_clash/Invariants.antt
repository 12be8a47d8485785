use Rattle.std.proofs.Common.{ℕ, suc, ◌<◌}
use Rattle.qn_braket.specs.Chains.{HasLink}
use Rattle.qn_mps.proofs.checks.first_clash.Given as goal

abbrev pub invariant-loop-place : goal.invariant-loop-place
invariant-loop-place g l = (j : ℕ) → suc j < l.place → HasLink l.tensors j
