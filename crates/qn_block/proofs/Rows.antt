-- Rows of a tensor at values out of range.
use Rattle.std.proofs.Common.{◌≡◌, ◌≢◌, ℕ, ℤ, suc, List, [], ◌∷◌, arith, refl, ap, ◌∙◌, subst, true, false, cond}
use Rattle.std.specs.List.{All}
use Rattle.std.proofs.lemmas.Bool.{false_from_ne_true}
use Rattle.qn_charge.specs.declared.factor.Factor.{Factor}
use Rattle.qn_gauss.specs.Gaussian.{zero_g}
use Rattle.qn_index.specs.Legs.{LegValue}
use Rattle.qn_index.specs.Places.{IsValues}
use Rattle.qn_value.specs.Tensors.{Row, IsRow, same_values, entry_at}
use Rattle.qn_value.proofs.Values.{same_values-equal}
use Rattle.qn_value.proofs.RowsLemmas.{same_values-itself}

pub same_from : (xs ys : List ℕ) → xs ≡ ys → same_values xs ys ≡ true
same_from xs ys e = subst (λ zs. same_values xs zs ≡ true) e (same_values-itself xs)

pub differ_from : (xs ys : List ℕ) → xs ≢ ys → same_values xs ys ≡ false
differ_from xs ys n = false_from_ne_true _ (λ s. n (same_values-equal xs ys s))

-- out of range the entry is 0
pub entry_out : (fs : List Factor) (ls : List LegValue) (q : List ℤ) (rs : List Row) (xs : List ℕ) → All (IsRow fs ls q) rs → (IsValues ls xs → ⊥) → entry_at rs xs ≡ zero_g
entry_out fs ls q [] xs h n = refl
entry_out fs ls q (r ∷ rs) xs h n =
    let row : IsRow fs ls q r = h 0 r (omega arith) in
    let other : same_values r.values xs ≡ false = differ_from r.values xs (λ e. n (subst (IsValues ls) e row.range)) in
    ap (λ b. cond b r.entry (entry_at rs xs)) other ∙ entry_out fs ls q rs xs (λ k d lt. h (suc k) d (omega arith)) n
