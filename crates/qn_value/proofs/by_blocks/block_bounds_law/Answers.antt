use Rattle.qn_value.proofs.BoundsLemmas.{blocks_bounded}
use Rattle.qn_value.proofs.by_blocks.block_bounds_law.Goals as goal

pub returns : goal.returns
returns c = blocks_bounded
