use Rattle.qn_value.proofs.PlacedLemmas
use Rattle.qn_value.proofs.conservation.placed_law.Goals as goal

pub returns : goal.returns
returns c = PlacedLemmas.placed_law
