use Rattle.qn_value.proofs.BlockRows.{block_rows}
use Rattle.qn_value.proofs.by_blocks.block_rows_law.Goals as goal

pub returns : goal.returns
returns c = block_rows
