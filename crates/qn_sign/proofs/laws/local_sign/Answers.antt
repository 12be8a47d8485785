use Rattle.qn_sign.proofs.ExchangeLaws as lemmas
use Rattle.qn_sign.proofs.laws.local_sign.Goals as goal

pub returns : goal.returns
returns g c = lemmas.local_sign
