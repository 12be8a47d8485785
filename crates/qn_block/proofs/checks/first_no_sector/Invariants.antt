use Rattle.qn_block.specs.Refusals.{IsNoSector}
use Rattle.qn_block.proofs.Firsts.{NoneBefore}
use Rattle.qn_block.proofs.checks.first_no_sector.Given as goal

abbrev pub invariant-loop-i : goal.invariant-loop-i
invariant-loop-i g l = NoneBefore (IsNoSector l.legs l.tuple) l.i
