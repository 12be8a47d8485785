use Rattle.qn_value.proofs.BlockRows.{block_tensor}
use Rattle.qn_value.proofs.by_blocks.block_tensor_law.Goals as goal

pub returns : goal.returns
returns c = block_tensor
