use Rattle.std.proofs.Common.{take}
use Rattle.qn_index.specs.Places.{block_size}
use Rattle.qn_match.specs.Pairs.{unmarked}
use Rattle.qn_match.specs.Keys.{digits_of, number, numbers, AreSums}
use Rattle.qn_match.proofs.counting.sums_by_key.Given as goal

abbrev pub invariant-loop-tuple : goal.invariant-loop-tuple
invariant-loop-tuple g l = AreSums (λ u. number l.bases (digits_of l.places u)) (λ u. block_size (unmarked l.marks l.legs) (unmarked l.marks u)) (numbers l.bases) (take l.tuple-index l.tuples) l.sums.items
