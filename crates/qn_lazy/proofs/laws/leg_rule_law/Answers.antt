use Rattle.qn_lazy.proofs.Meanings as lemmas
use Rattle.qn_lazy.proofs.laws.leg_rule_law.Goals as goal

pub returns : goal.returns
returns c = lemmas.leg_rule_law
