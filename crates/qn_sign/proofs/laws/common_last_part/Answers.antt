use Rattle.qn_sign.proofs.ExchangeLaws as lemmas
use Rattle.qn_sign.proofs.laws.common_last_part.Goals as goal

pub returns : goal.returns
returns g c = lemmas.common_last_part
