use Rattle.std.proofs.Common.{ℕ, ◌<◌, get_or}
use Rattle.qn_block.specs.Blocked.{BlockedValue, IsBlocked}
use Rattle.qn_mps.proofs.chain.known_tensors.Given as goal

abbrev pub invariant-loop-tensor : goal.invariant-loop-tensor
invariant-loop-tensor g l = (k : ℕ) (d : BlockedValue) → k < l.tensor-index → IsBlocked (get_or l.tensors k d)
