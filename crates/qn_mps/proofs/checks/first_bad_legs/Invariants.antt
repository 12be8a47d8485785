use Rattle.std.proofs.Common.{ℕ, ◌<◌}
use Rattle.qn_mps.specs.Refusals.{HasLegsAt}
use Rattle.qn_mps.proofs.checks.first_bad_legs.Given as goal

abbrev pub invariant-loop-place : goal.invariant-loop-place
invariant-loop-place g l = (j : ℕ) → j < l.place → HasLegsAt l.kind l.sites l.tensors j
