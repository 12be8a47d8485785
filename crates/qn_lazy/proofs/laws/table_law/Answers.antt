use Rattle.qn_lazy.proofs.Meanings as lemmas
use Rattle.qn_lazy.proofs.laws.table_law.Goals as goal

pub returns : goal.returns
returns c = lemmas.table_law
