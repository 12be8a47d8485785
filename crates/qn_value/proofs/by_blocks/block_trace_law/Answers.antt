use Rattle.qn_value.proofs.BlocksLemmas.{one_law}
use Rattle.qn_value.proofs.by_blocks.block_trace_law.Goals as goal

pub returns : goal.returns
returns c = one_law
