use Rattle.std.proofs.Common.{◌≡◌, take}
use Rattle.qn_kernel.specs.Matrices.{laid_out}
use Rattle.qn_kernel.proofs.layout.laid_out.Given as goal

abbrev pub invariant-loop-row : goal.invariant-loop-row
invariant-loop-row l = l.out.items ≡ laid_out l.entries (take l.row-index l.rows) l.cols
