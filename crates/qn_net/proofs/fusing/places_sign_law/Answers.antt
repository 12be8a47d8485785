use Rattle.qn_net.proofs.FuseEntries.{places_sign}
use Rattle.qn_net.proofs.fusing.places_sign_law.Goals as goal

pub returns : goal.returns
returns c = places_sign
