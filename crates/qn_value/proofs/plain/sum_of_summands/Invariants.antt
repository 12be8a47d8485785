use Rattle.qn_value.specs.Numbering.{parity_in}
use Rattle.qn_value.proofs.PlainLemmas.{IsSum}
use Rattle.qn_value.proofs.plain.sum_of_summands.Given as goal

abbrev pub invariant-loop-number : goal.invariant-loop-number
invariant-loop-number l = IsSum (parity_in l.parities) l.tensors l.bonds l.opens l.values l.number l.sum l.size
