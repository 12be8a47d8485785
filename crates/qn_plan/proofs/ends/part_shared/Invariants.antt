use Rattle.std.proofs.Common.{◌≡◌, ◌++◌, length, filter, not, ◌&&◌}
use Rattle.qn_plan.specs.Shapes.{is_on}
use Rattle.qn_plan.proofs.ends.part_shared.Given as goal

abbrev pub invariant-loop-rest : goal.invariant-loop-rest
invariant-loop-rest l =
    (l.parted.summed.items ++ filter (λ k. is_on k l.first && is_on k l.second) l.rest ≡ filter (λ k. is_on k l.first && is_on k l.second) l.labels)
    × (l.parted.left.items ++ filter (λ k. not (is_on k l.first && is_on k l.second)) l.rest ≡ filter (λ k. not (is_on k l.first && is_on k l.second)) l.labels)

abbrev pub decreases-loop-rest : goal.decreases-loop-rest
decreases-loop-rest l = length l.rest
