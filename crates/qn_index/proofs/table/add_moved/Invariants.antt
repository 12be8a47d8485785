use Rattle.std.proofs.Common.{◌≡◌, ◌++◌, map, take}
use Rattle.qn_index.specs.Weights.{moved}
use Rattle.qn_index.proofs.table.add_moved.Given as goal

abbrev pub invariant-loop-w : goal.invariant-loop-w
invariant-loop-w g l = l.out.items ≡ l.fn.out.items ++ map (moved l.group l.own l.dim) (take l.w-index l.rows)
