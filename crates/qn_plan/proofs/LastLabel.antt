-- The last label of a list.
use Rattle.std.proofs.Common.{◌≡◌, ◌<◌, ◌-◌, ℕ, suc, ℤ, List, [], ◌∷◌, refl, ◌∙◌, ap₂, length, take, drop, arith}
use Rattle.qn_net.specs.Steps.{last_one}

last_from : (x : ℤ) (xs : List ℤ) → take 1 (drop (length xs) (x ∷ xs)) ≡ last_one (x ∷ xs)
last_from x [] = refl
last_from x (y ∷ ys) = last_from y ys

pub last_is : (xs : List ℤ) → 0 < length xs → take (length xs - (length xs - 1)) (drop (length xs - 1) xs) ≡ last_one xs
last_is [] h = absurd (omega arith)
last_is (x ∷ xs) h = ap₂ (λ (k m : ℕ). take k (drop m (x ∷ xs))) (one (length xs)) (less (length xs)) ∙ last_from x xs
  where
    one : (n : ℕ) → suc n - (suc n - 1) ≡ 1
    one n = omega arith

    less : (n : ℕ) → suc n - 1 ≡ n
    less n = omega arith
