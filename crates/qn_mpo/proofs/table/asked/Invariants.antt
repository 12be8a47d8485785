use Rattle.std.proofs.Common.{◌≡◌, ◌<◌, ◌/◌, ◌%◌, ℕ, length, get_or}
use Rattle.qn_gauss.specs.Gaussian.{zero_g}
use Rattle.qn_sites.specs.Operators.{element}
use Rattle.qn_mpo.proofs.table.asked.Given as goal

abbrev pub invariant-loop-place : goal.invariant-loop-place
invariant-loop-place g l = record {
  full : length l.entries.items ≡ l.place;
  entries : (k : ℕ) → k < l.place → get_or l.entries.items k zero_g ≡ element l.op (k / l.dim) (k % l.dim);
}
