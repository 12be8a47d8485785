use Rattle.qn_opsum.proofs.NormalOrder.{below-sort, normal_law, ordered-sort}
use Rattle.qn_opsum.proofs.laws.sorted_strings.Goals as goal

pub returns : goal.returns
returns c S parities term b t s = (normal_law S parities term b t s, ordered-sort term, below-sort S.count term b)
