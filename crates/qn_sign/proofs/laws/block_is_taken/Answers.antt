use Rattle.qn_sign.proofs.ExchangeLaws as lemmas
use Rattle.qn_sign.proofs.laws.block_is_taken.Goals as goal

pub returns : goal.returns
returns g c = lemmas.block_is_taken
