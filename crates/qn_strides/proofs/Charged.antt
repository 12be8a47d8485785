-- Equal charges.
use Rattle.std.proofs.Common.{◌≡◌, ℤ, Bool, true, false, List, [], ◌∷◌, refl, sym, ◌∙◌, ap₂, subst, ◌⊎◌, inl, inr, int_eq}
use Rattle.std.proofs.lemmas.Bool.{false≢true}
use Rattle.qn_value.proofs.Sums.{label_test}

pub charge_or_not : (a b : List ℤ) → (a ≡ b) ⊎ (a ≡ b → ⊥)
charge_or_not [] [] = inl refl
charge_or_not [] (y ∷ ys) = inr (λ e. absurd (cc e))
charge_or_not (x ∷ xs) [] = inr (λ e. absurd (cc e))
charge_or_not (x ∷ xs) (y ∷ ys) = go (int_eq x y) refl (charge_or_not xs ys)
  where
    head : x ∷ xs ≡ y ∷ ys → x ≡ y
    head e = cc e

    tail : x ∷ xs ≡ y ∷ ys → xs ≡ ys
    tail e = cc e

    go : (b : Bool) → int_eq x y ≡ b → (xs ≡ ys) ⊎ (xs ≡ ys → ⊥) → (x ∷ xs ≡ y ∷ ys) ⊎ (x ∷ xs ≡ y ∷ ys → ⊥)
    go true e (inl f) = inl (ap₂ (λ z zs. z ∷ zs) (label_test.equal x y e) f)
    go true e (inr n) = inr (λ f. n (tail f))
    go false e r = inr (λ f. false≢true (sym e ∙ subst (λ z. int_eq x z ≡ true) (head f) (label_test.itself x)))
