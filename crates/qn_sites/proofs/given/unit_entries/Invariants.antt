use Rattle.std.proofs.Common.{◌≡◌, ◌==◌, ◌/◌, ◌%◌, map, cond}
use Rattle.std.specs.List.{range_with_len}
use Rattle.qn_gauss.specs.Gaussian.{one_g, zero_g}
use Rattle.qn_sites.proofs.given.unit_entries.Given as goal

abbrev pub invariant-loop-place : goal.invariant-loop-place
invariant-loop-place l = l.entries.items ≡ map (λ k. cond (k / l.dim == k % l.dim) one_g zero_g) (range_with_len 0 l.place)
