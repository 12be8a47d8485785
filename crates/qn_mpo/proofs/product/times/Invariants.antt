use Rattle.std.proofs.Common.{◌≡◌, ◌≤◌, ◌<◌, ◌+◌, ◌*◌, ◌/◌, ◌%◌, ℕ, length, get_or}
use Rattle.qn_gauss.specs.Gaussian.{limit, zero_g}
use Rattle.qn_mpo.specs.Tables.{entry_size, entry_sum}
use Rattle.qn_mpo.proofs.product.times.Given as goal

abbrev pub invariant-loop-place : goal.invariant-loop-place
invariant-loop-place g l = record {
  full : length l.entries.items ≡ l.place;
  entries : (k : ℕ) → k < l.place → get_or l.entries.items k zero_g ≡ entry_sum l.dim l.left l.right (k / l.dim) (k % l.dim);
  fits : (k : ℕ) → k < l.place → entry_size l.dim l.left l.right (k / l.dim) (k % l.dim) ≤ limit;
  ticks : l.steps ≤ l.fn.steps + l.place * l.dim;
}
