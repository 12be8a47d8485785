use Rattle.std.proofs.Common.{◌≡◌, ◌*◌, take, get_or}
use Rattle.std.specs.List.{sum_by}
use Rattle.qn_index.specs.Places.{block_size}
use Rattle.qn_match.specs.Keys.{digits_of, number}
use Rattle.qn_match.proofs.counting.total.Given as goal

abbrev pub invariant-loop-tuple : goal.invariant-loop-tuple
invariant-loop-tuple g l = l.total ≡ sum_by (λ t. block_size l.legs t * get_or l.sums (number l.bases (digits_of l.places t)) 0) (take l.tuple-index l.tuples)
