use Rattle.qn_value.proofs.BlocksLemmas
use Rattle.qn_value.proofs.by_blocks.choices_law.Goals as goal

pub returns : goal.returns
returns c par sectors ns bonds opens net fit d = BlocksLemmas.choices_law par sectors ns bonds opens net fit d
