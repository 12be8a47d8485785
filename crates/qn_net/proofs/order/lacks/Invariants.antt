use Rattle.std.proofs.Common.{◌≡◌, ◌<◌, ℕ, pos, false, slice_index_or}
use Rattle.qn_net.specs.Refusals.{legs_with}
use Rattle.qn_net.proofs.order.lacks.Given as goal

abbrev pub invariant-loop-n : goal.invariant-loop-n
invariant-loop-n l = (k : ℕ) → 0 < k → k < l.n → 0 < legs_with (pos k) l.table → slice_index_or l.seen k false ≡ false → ⊥
