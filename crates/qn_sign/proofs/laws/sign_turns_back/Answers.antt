use Rattle.qn_sign.proofs.ExchangeLaws as lemmas
use Rattle.qn_sign.proofs.laws.sign_turns_back.Goals as goal

pub returns : goal.returns
returns g c = lemmas.sign_turns_back
