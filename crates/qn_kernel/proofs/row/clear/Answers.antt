use Rattle.std.proofs.Common.{rules, arith, ◌≡◌, ◌≤◌, ◌<◌, ℕ, ◌+◌, sym, ◌∙◌, ap, subst, map, length, set, ◌⊎◌, inl, inr, eq-or-lt_of_le, List}
use Rattle.std.proofs.lemmas.List.{map-set, length-map, get_or-set_same, get_or-set_other}
use Rattle.qn_gauss.specs.Gaussian.{Gaussian, zero_g}
use Rattle.qn_kernel.specs.Matrices.{number_at}
use Rattle.qn_kernel.proofs.row.clear.Goals as goal

zero_more : (row : List Gaussian) (n : ℕ) (z : Gaussian) → n < length row → z ≡ zero_g → ((k : ℕ) → k < n → number_at row k ≡ zero_g) → (k : ℕ) → k < n + 1 → number_at (set row n z) k ≡ zero_g
zero_more row n z l e h k m = by (eq-or-lt_of_le at)
  where
    at : k ≤ n
    at = omega arith

    by : (k ≡ n) ⊎ (k < n) → number_at (set row n z) k ≡ zero_g
    by (inl same) = subst (λ i. number_at (set row n z) i ≡ zero_g) (sym same) (get_or-set_same row n z zero_g l ∙ e)
    by (inr less) = get_or-set_other row n k z zero_g (omega arith) ∙ h k less

pub loop-y-preserved : goal.loop-y-preserved
loop-y-preserved g c k l =
    ap (λ (row : List Gaussian). number_at row k) (map-set g.S.Total.total c.loop-y.row c.loop-y.y c.zero.result)
    ∙ zero_more (map g.S.Total.total c.loop-y.row) c.loop-y.y (g.S.Total.total c.zero.result) (search (rules, length-map)) c.zero.ensures c.loop-y.invariant k l
