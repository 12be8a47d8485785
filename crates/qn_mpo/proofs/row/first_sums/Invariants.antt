use Rattle.std.proofs.Common.{◌≡◌, ◌==◌, ◌<◌, ◌/◌, ◌%◌, ℕ, length}
use Rattle.qn_mpo.specs.Sums.{first_value, sum_at}
use Rattle.qn_mpo.proofs.row.first_sums.Given as goal

abbrev pub invariant-loop-place : goal.invariant-loop-place
invariant-loop-place g l = record {
  full : length l.sums.items ≡ l.place;
  sums : (k : ℕ) → k < l.place → sum_at l.sums.items k ≡ first_value (k / l.size == l.waiting) ((k % l.size) / l.dim) ((k % l.size) % l.dim);
}
