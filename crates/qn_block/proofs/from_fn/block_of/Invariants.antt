use Rattle.std.proofs.Common.{◌≡◌, ℕ, ◌<◌, length, get_or}
use Rattle.std.specs.Fn.{FnReturnsAt}
use Rattle.qn_gauss.specs.Gaussian.{zero_g}
use Rattle.qn_index.specs.Places.{values_at}
use Rattle.qn_block.proofs.from_fn.block_of.Given as goal

abbrev pub invariant-loop-place : goal.invariant-loop-place
invariant-loop-place g l = record {
  long : length l.values.items ≡ length l.legs;
  count : length l.entries.items ≡ l.place;
  answers : (o : ℕ) → o < l.place → FnReturnsAt g.F.Fn l.f (values_at l.legs l.tuple o) (get_or l.entries.items o zero_g);
}
