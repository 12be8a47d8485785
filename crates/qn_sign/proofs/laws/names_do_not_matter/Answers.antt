use Rattle.qn_sign.proofs.Names as lemmas
use Rattle.qn_sign.proofs.laws.names_do_not_matter.Goals as goal

pub returns : goal.returns
returns g c = lemmas.names_do_not_matter
