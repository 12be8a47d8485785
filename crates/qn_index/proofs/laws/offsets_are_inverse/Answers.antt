use Rattle.qn_index.proofs.Places.{inner_in, offset_of_inner, inner_of_offset}
use Rattle.qn_index.proofs.laws.offsets_are_inverse.Goals as goal

pub returns : goal.returns
returns c = record { inner = λ ls t n h lt. (inner_in ls t n h lt, offset_of_inner ls t n h lt); offset = inner_of_offset }
