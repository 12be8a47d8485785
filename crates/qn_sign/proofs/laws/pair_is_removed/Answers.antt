use Rattle.qn_sign.proofs.ExchangeLaws as lemmas
use Rattle.qn_sign.proofs.laws.pair_is_removed.Goals as goal

pub returns : goal.returns
returns g c = lemmas.pair_is_removed
