use Rattle.std.proofs.Common.{◌≡◌, take}
use Rattle.qn_opsum.proofs.normal.copy_factors.Given as goal

abbrev pub invariant-loop-factor : goal.invariant-loop-factor
invariant-loop-factor l = l.copies.items ≡ take l.factor-index l.factors
