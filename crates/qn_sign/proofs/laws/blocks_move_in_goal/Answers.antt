use Rattle.qn_sign.proofs.ExchangeLaws as lemmas
use Rattle.qn_sign.proofs.laws.blocks_move_in_goal.Goals as goal

pub returns : goal.returns
returns g c = lemmas.blocks_move_in_goal
