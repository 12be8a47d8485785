use Rattle.std.proofs.Common.{◌≡◌, take}
use Rattle.qn_value.specs.Local.{picked}
use Rattle.qn_permute.proofs.block.sectors_in_order.Given as goal

abbrev pub invariant-loop-k : goal.invariant-loop-k
invariant-loop-k l = l.out.items ≡ picked 0 l.tuple (take l.k-index l.order)
