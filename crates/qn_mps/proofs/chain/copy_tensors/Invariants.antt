use Rattle.std.proofs.Common.{◌≡◌, take}
use Rattle.qn_mps.proofs.chain.copy_tensors.Given as goal

abbrev pub invariant-loop-tensor : goal.invariant-loop-tensor
invariant-loop-tensor g l = l.copies.items ≡ take l.tensor-index l.tensors
