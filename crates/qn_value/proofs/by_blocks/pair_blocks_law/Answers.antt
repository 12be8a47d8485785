use Rattle.qn_value.proofs.TensorBlocks.{pair_blocks}
use Rattle.qn_value.proofs.by_blocks.pair_blocks_law.Goals as goal

pub returns : goal.returns
returns c = pair_blocks
