use Rattle.std.proofs.Common.{◌≡◌, ◌<◌, ◌/◌, ◌%◌, ℕ, length, get_or}
use Rattle.qn_gauss.specs.Gaussian.{zero_g}
use Rattle.qn_opsum.specs.Strings.{identity}
use Rattle.qn_mpo.proofs.table.Table.identity.Given as goal

abbrev pub invariant-loop-place : goal.invariant-loop-place
invariant-loop-place l = record {
  full : length l.entries.items ≡ l.place;
  entries : (k : ℕ) → k < l.place → get_or l.entries.items k zero_g ≡ identity (k / l.dim) (k % l.dim);
}
