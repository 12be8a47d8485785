use Rattle.qn_index.proofs.Admitted.{block_within}
use Rattle.qn_index.proofs.laws.known_block.Goals as goal

pub returns : goal.returns
returns g c = block_within c.args.group.now c.args.legs.now c.args.flux.now c.args.tuple.now c.requires
