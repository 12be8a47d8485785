use Rattle.std.proofs.Common.{◌≡◌, ◌<◌, ◌≤◌, ℕ, get_or, map, take}
use Rattle.qn_gauss.specs.Gaussian.{limit}
use Rattle.qn_mpo.specs.Sizes.{SumValue}
use Rattle.qn_mpo.proofs.row.values_of.Given as goal

abbrev pub invariant-loop-sum : goal.invariant-loop-sum
invariant-loop-sum l = record {
  values : l.values.items ≡ map (λ (s : SumValue). s.value) (take l.sum-index l.sums);
  fit : (k : ℕ) (d : SumValue) → k < l.sum-index → (get_or l.sums k d).size ≤ limit;
}
