use Rattle.qn_block.specs.Refusals.{OffFluxAt}
use Rattle.qn_block.proofs.Firsts.{NoneBefore}
use Rattle.qn_block.proofs.checks.first_off_flux.Given as goal

abbrev pub invariant-loop-block : goal.invariant-loop-block
invariant-loop-block g l = NoneBefore (OffFluxAt l.group l.legs l.flux l.blocks) l.block
