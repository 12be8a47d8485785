use Rattle.std.proofs.Common.{◌≡◌, ◌++◌, ℕ, List, length}
use Rattle.qn_value.specs.Tensors.{BlockValue}
use Rattle.qn_pair.proofs.Placing.{IsPlaced}
use Rattle.qn_pair.proofs.result.row_of.Given as goal

abbrev pub invariant-loop-one : goal.invariant-loop-one
invariant-loop-one g l = (rest : List (ℕ × BlockValue)) × (l.fn.done.items ≡ l.done.items ++ rest) × IsPlaced l.job rest l.row.items

abbrev pub decreases-loop-one : goal.decreases-loop-one
decreases-loop-one g l = length l.done.items
