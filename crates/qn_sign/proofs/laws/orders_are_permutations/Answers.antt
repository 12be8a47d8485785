use Rattle.qn_sign.proofs.Positions as lemmas
use Rattle.qn_sign.proofs.laws.orders_are_permutations.Goals as goal

pub returns : goal.returns
returns c = lemmas.orders_are_permutations
