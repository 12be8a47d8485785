use Rattle.qn_value.proofs.BlocksLemmas.{pairs_law}
use Rattle.qn_value.proofs.by_blocks.block_pairs_law.Goals as goal

pub returns : goal.returns
returns c = pairs_law
