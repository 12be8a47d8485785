use Rattle.std.proofs.Common.{◌≡◌, ◌++◌, take}
use Rattle.qn_kernel.specs.Matrices.{laid_row}
use Rattle.qn_kernel.proofs.layout.append_row.Given as goal

abbrev pub invariant-loop-place : goal.invariant-loop-place
invariant-loop-place l = l.out.items ≡ l.fn.out.items ++ laid_row l.entries (take l.place-index l.places) l.start
