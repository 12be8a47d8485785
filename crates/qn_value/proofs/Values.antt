-- Lists of values.
use Rattle.std.proofs.Common.{◌≡◌, ℕ, ◌==◌, true, List, [], ◌∷◌, refl, ap₂, eqb-true}
use Rattle.std.proofs.lemmas.Bool.{and_parts, false≢true}
use Rattle.qn_value.specs.Tensors.{same_values}
pub use Rattle.qn_facts.proofs.Booleans.{same_tests as both_ways}

pub same_values-equal : (xs ys : List ℕ) → same_values xs ys ≡ true → xs ≡ ys
same_values-equal [] [] e = refl
same_values-equal [] (y ∷ ys) e = absurd (false≢true e)
same_values-equal (x ∷ xs) [] e = absurd (false≢true e)
same_values-equal (x ∷ xs) (y ∷ ys) e =
    let p = and_parts (x == y) (same_values xs ys) e in
    ap₂ ◌∷◌ (eqb-true x y p.0) (same_values-equal xs ys p.1)
