use Rattle.qn_match.proofs.OpenLegs.{legs_open}
use Rattle.qn_match.proofs.laws.legs_left_are_open.Goals as goal

pub returns : goal.returns
returns c = legs_open
