use Rattle.std.proofs.Common.{◌≡◌, ◌/◌, ◌%◌, map}
use Rattle.std.specs.List.{range_with_len}
use Rattle.qn_sites.specs.Kinds.{entry_of, value_at}
use Rattle.qn_sites.proofs.kind.fill.Given as goal

abbrev pub invariant-loop-place : goal.invariant-loop-place
invariant-loop-place l = l.all.items ≡ map (λ k. value_at (map entry_of l.entries) (k / l.dim) (k % l.dim)) (range_with_len 0 l.place)
