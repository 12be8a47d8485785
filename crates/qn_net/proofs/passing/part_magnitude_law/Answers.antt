use Rattle.qn_net.proofs.PassLemmas.{mag_part}
use Rattle.qn_net.proofs.passing.part_magnitude_law.Goals as goal

pub returns : goal.returns
returns c = mag_part
