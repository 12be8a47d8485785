use Rattle.std.proofs.Common.{arith}
use Rattle.qn_kernel.proofs.Bounds.{within_all}
use Rattle.qn_kernel.proofs.layout.greatest_of.Goals as goal

pub returns : goal.returns
returns c = within_all c.args.cells.now c.loop-cell.greatest (λ i l. c.loop-cell.invariant i (omega (arith, l)))
