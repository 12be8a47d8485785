use Rattle.std.proofs.Common.{◌≡◌, ◌+◌, ◌++◌, take}
use Rattle.qn_index.specs.Extents.{size_of}
use Rattle.qn_block.specs.Combiners.{starts_from}
use Rattle.qn_block.proofs.starts.add_starts.Given as goal

abbrev pub invariant-loop-i : goal.invariant-loop-i
invariant-loop-i g l = record {
  next : l.next ≡ l.first + size_of l.legs (take l.i l.tuples);
  starts : l.starts.items ≡ l.fn.starts.items ++ starts_from l.legs l.first (take l.i l.tuples);
}
