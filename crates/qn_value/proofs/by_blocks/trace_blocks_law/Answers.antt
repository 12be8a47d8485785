use Rattle.qn_value.proofs.TensorBlocks.{trace_blocks}
use Rattle.qn_value.proofs.by_blocks.trace_blocks_law.Goals as goal

pub returns : goal.returns
returns c = trace_blocks
