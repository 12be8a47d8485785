use Rattle.qn_index.proofs.Places.{values_in, back, forth}
use Rattle.qn_index.proofs.laws.values_are_inverse.Goals as goal

pub returns : goal.returns
returns c = record {
  values = λ ls t n h lt. let r = back ls t n h lt in (values_in ls t n h lt, r.sectors, r.offset);
  place = λ ls xs h. let r = forth ls xs h in (r.tuple, r.below, r.values);
}
