use Rattle.qn_block.proofs.Ascending.{not_zero_is}
use Rattle.qn_parts.proofs.writing.is_not_zero.Goals as goal

pub returns : goal.returns
returns c = not_zero_is c.args.entry.now c.is_zero.result c.is_zero.ensures.0 c.is_zero.ensures.1
