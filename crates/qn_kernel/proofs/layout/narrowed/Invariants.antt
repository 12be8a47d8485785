use Rattle.std.proofs.Common.{◌≡◌, take, map}
use Rattle.qn_kernel.specs.Numbers.{small_value}
use Rattle.qn_kernel.proofs.layout.narrowed.Given as goal

abbrev pub invariant-loop-cell : goal.invariant-loop-cell
invariant-loop-cell l = map small_value l.all.items ≡ take l.cell-index l.cells
