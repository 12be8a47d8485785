use Rattle.qn_value.proofs.BlockTwist.{block_twist}
use Rattle.qn_value.proofs.by_blocks.block_twist_law.Goals as goal

pub returns : goal.returns
returns c = block_twist
