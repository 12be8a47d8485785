use Rattle.qn_lazy.proofs.Tables as lemmas
use Rattle.qn_lazy.proofs.laws.has_table_law.Goals as goal

pub returns : goal.returns
returns c = lemmas.has_table_law
