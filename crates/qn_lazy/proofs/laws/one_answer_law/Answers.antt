use Rattle.qn_lazy.proofs.Meanings as lemmas
use Rattle.qn_lazy.proofs.laws.one_answer_law.Goals as goal

pub returns : goal.returns
returns c = lemmas.one_answer_law
