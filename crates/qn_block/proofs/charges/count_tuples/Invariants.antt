use Rattle.std.proofs.Common.{◌≡◌, ◌^◌, drop}
use Rattle.qn_index.specs.Extents.{capped}
use Rattle.qn_index.specs.Tuples.{count}
use Rattle.qn_block.proofs.charges.count_tuples.Given as goal

abbrev pub invariant-loop-i : goal.invariant-loop-i
invariant-loop-i g l = l.size ≡ capped (2 ^ 20) (count (drop l.i l.legs))
