use Rattle.qn_block.proofs.Canonical.{blocks_by_entries}
use Rattle.qn_block.proofs.laws.blocks_of_entries.Goals as goal

pub returns : goal.returns
returns c = blocks_by_entries
