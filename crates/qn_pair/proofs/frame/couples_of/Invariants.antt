use Rattle.std.proofs.Common.{◌≡◌, take}
use Rattle.qn_kernel.specs.Sources.{couples_of}
use Rattle.qn_pair.proofs.frame.couples_of.Given as goal

abbrev pub invariant-loop-pair : goal.invariant-loop-pair
invariant-loop-pair l = l.couples.items ≡ couples_of l.count (take l.pair-index l.shared)
