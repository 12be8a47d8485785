use Rattle.qn_sign.proofs.Positions as lemmas
use Rattle.qn_sign.proofs.laws.positions_stand_for_things.Goals as goal

pub returns : goal.returns
returns g c = lemmas.positions_stand_for_things
