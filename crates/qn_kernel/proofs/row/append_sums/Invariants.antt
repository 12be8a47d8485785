use Rattle.std.proofs.Common.{◌≡◌, ◌++◌, map, take}
use Rattle.qn_kernel.proofs.row.append_sums.Given as goal

abbrev pub invariant-loop-sum : goal.invariant-loop-sum
invariant-loop-sum g l = l.entries.items ≡ l.fn.entries.items ++ map g.S.Total.total (take l.sum-index l.row)
