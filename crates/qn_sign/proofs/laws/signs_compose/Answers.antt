use Rattle.qn_sign.proofs.ExchangeLaws as lemmas
use Rattle.qn_sign.proofs.laws.signs_compose.Goals as goal

pub returns : goal.returns
returns g c = lemmas.signs_compose
