-- The entries of a block, written one after another, each with its sum of magnitudes within the limit.
use Rattle.std.proofs.Common.{◌≡◌, ◌≤◌, ◌<◌, ℕ, ◌+◌, List, [], ◌∷◌, ◌++◌, sym, ◌∙◌, ap, ap₂, subst, map, zero-add, add-one, ◌⊎◌, inl, inr, eq-or-lt_of_le, arith}
use Rattle.std.proofs.lemmas.List.{map-append}
use Rattle.qn_sign.specs.Positions.{positions}
use Rattle.qn_gauss.specs.Gaussian.{Gaussian, limit}
use Rattle.qn_facts.proofs.Lists.{range_last}

pub record AreEntries (entry : ℕ → Gaussian) (amount : ℕ → ℕ) (n : ℕ) (out : List Gaussian) : Type 0 where
  pub made : out ≡ map entry (positions n)
  pub clear : (j : ℕ) → j < n → amount j ≤ limit

pub entries_more : (entry : ℕ → Gaussian) (amount : ℕ → ℕ) (n : ℕ) (out : List Gaussian) (z : Gaussian) → AreEntries entry amount n out → z ≡ entry n → amount n ≤ limit → AreEntries entry amount (n + 1) (out ++ z ∷ [])
entries_more entry amount n out z h e s = record {
  made =
      ap₂ (λ ys y. ys ++ y ∷ []) h.made e
      ∙ sym (map-append entry (positions n) (n ∷ []))
      ∙ ap (map entry) (sym (ap positions (add-one n) ∙ range_last 0 n ∙ ap (λ k. positions n ++ k ∷ []) (zero-add n)));
  clear = below;
}
  where
    below : (j : ℕ) → j < n + 1 → amount j ≤ limit
    below j l = by (eq-or-lt_of_le at)
      where
        at : j ≤ n
        at = omega arith

        by : (j ≡ n) ⊎ (j < n) → amount j ≤ limit
        by (inl f) = subst (λ k. amount k ≤ limit) (sym f) s
        by (inr m) = h.clear j m
