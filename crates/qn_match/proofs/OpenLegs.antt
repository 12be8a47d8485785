-- What is left of two tensors' legs is what stands in no shared pair.
use Rattle.std.proofs.Common.{◌≡◌, ◌≢◌, ◌<◌, ◌+◌, ◌==◌, ◌||◌, ℕ, Bool, true, false, cond, suc, List, [], ◌∷◌, ◌++◌, length, map, arith, refl, sym, ap, ap₂, ◌∙◌, ◌⊎◌, inl, inr}
use Rattle.std.specs.List.{All, range_with_len}
use Rattle.std.proofs.lemmas.Bool.Decides.{eqb_tells}
use Rattle.std.proofs.lemmas.List.{append-nil}
use Rattle.std.proofs.lemmas.List.Elements.{All-tail}
use Rattle.qn_index.specs.Legs.{LegValue}
use Rattle.qn_value.specs.Tensors.{TensorValue}
use Rattle.qn_value.specs.Local.{is_coupled, open_from, open_legs, shared_couples}
use Rattle.qn_match.specs.Pairs.{is_first, is_second, unmarked, first_left, second_left, joined, IsShared}
use Rattle.qn_match.proofs.Radix.{not_same, is_same}

abbrev couples : ℕ → List (ℕ × ℕ) → List (ℕ × ℕ)
couples n shared = map (λ p. (p.0, n + p.1)) shared

first_coupled : (n : ℕ) (shared : List (ℕ × ℕ)) (i : ℕ) → i < n → is_coupled (couples n shared) i ≡ is_first shared i
first_coupled n [] i lt = refl
first_coupled n (p ∷ ps) i lt = ap₂ (λ b c. (i == p.0) || (b || c)) (not_same i (n + p.1) (λ e. absurd (omega arith))) (first_coupled n ps i lt)

pub shifted : (n i k : ℕ) → (n + i == n + k) ≡ (i == k)
shifted n i k = by (eqb_tells i k)
  where
    by : ((i == k) ≡ true) × (i ≡ k) ⊎ ((i == k) ≡ false) × (i ≢ k) → (n + i == n + k) ≡ (i == k)
    by (inl p) = ap (λ m. n + m == n + k) p.1 ∙ (is_same (n + k) (n + k) refl ∙ sym p.0)
    by (inr p) = not_same (n + i) (n + k) (λ e. p.1 (omega arith)) ∙ sym p.0

second_coupled : (n : ℕ) (shared : List (ℕ × ℕ)) (j : ℕ) → All (λ p. p.0 < n) shared → is_coupled (couples n shared) (n + j) ≡ is_second shared j
second_coupled n [] j h = refl
second_coupled n (p ∷ ps) j h =
    let within : p.0 < n = h 0 p (omega arith) in
    ap₂ (λ a c. a || c) (not_same (n + j) p.0 (λ e. absurd (omega arith))) (ap₂ (λ b c. b || c) (shifted n j p.1) (second_coupled n ps j (All-tail (λ q. q.0 < n) p ps h)))

open_append : (cs : List (ℕ × ℕ)) (ks ls : List LegValue) (i : ℕ) → open_from i cs (ks ++ ls) ≡ open_from i cs ks ++ open_from (i + length ks) cs ls
open_append cs [] ls i = let z : i + 0 ≡ i = omega arith in ap (λ k. open_from k cs ls) (sym z)
open_append cs (k ∷ ks) ls i =
    let e : suc i + length ks ≡ i + suc (length ks) = omega arith in
    let later : open_from (suc i) cs (ks ++ ls) ≡ open_from (suc i) cs ks ++ open_from (i + suc (length ks)) cs ls = open_append cs ks ls (suc i) ∙ ap (λ m. open_from (suc i) cs ks ++ open_from m cs ls) e in
    by (open_from (suc i) cs (ks ++ ls)) (open_from (suc i) cs ks) (open_from (i + suc (length ks)) cs ls) (is_coupled cs i) later
  where
    by : (xs ys zs : List LegValue) (b : Bool) → xs ≡ ys ++ zs → cond b xs (k ∷ xs) ≡ cond b ys (k ∷ ys) ++ zs
    by xs ys zs true e = e
    by xs ys zs false e = ap (λ ws. k ∷ ws) e

open_marked : (cs : List (ℕ × ℕ)) (f : ℕ → Bool) (ls : List LegValue) (i a : ℕ) → ((k : ℕ) → k < length ls → is_coupled cs (i + k) ≡ f (a + k)) → open_from i cs ls ≡ unmarked (map f (range_with_len a (length ls))) ls
open_marked cs f [] i a h = refl
open_marked cs f (l ∷ ls) i a h =
    let z : i + 0 ≡ i = omega arith in
    let y : a + 0 ≡ a = omega arith in
    let here : is_coupled cs i ≡ f a = ap (is_coupled cs) (sym z) ∙ (h 0 (omega arith) ∙ ap f y) in
    ap₂ (λ b xs. cond b xs (l ∷ xs)) here (open_marked cs f ls (suc i) (a + 1) (λ k lt. let e : suc i + k ≡ i + suc k = omega arith in let g : a + 1 + k ≡ a + suc k = omega arith in ap (is_coupled cs) e ∙ (h (suc k) (omega arith) ∙ ap f (sym g))))

pub legs_open : (a b : TensorValue) (shared : List (ℕ × ℕ)) → IsShared a.legs b.legs shared → joined shared a.legs b.legs ≡ open_legs (a ∷ b ∷ []) (shared_couples a shared)
legs_open a b shared h =
    let n : ℕ = length a.legs in
    let cs : List (ℕ × ℕ) = couples n shared in
    let first : open_from 0 cs a.legs ≡ first_left shared a.legs = open_marked cs (is_first shared) a.legs 0 0 (λ k lt. let z : 0 + k ≡ k = omega arith in ap (is_coupled cs) z ∙ (first_coupled n shared k lt ∙ ap (is_first shared) (sym z))) in
    let second : open_from (0 + n) cs b.legs ≡ second_left shared b.legs =
    open_marked cs (is_second shared) b.legs (0 + n) 0 (λ k lt. let z : 0 + n + k ≡ n + k = omega arith in let y : 0 + k ≡ k = omega arith in ap (is_coupled cs) z ∙ (second_coupled n shared k h.first ∙ ap (is_second shared) (sym y))) in
    sym (ap (λ ls. open_from 0 cs (a.legs ++ ls)) (append-nil b.legs) ∙ (open_append cs a.legs b.legs 0 ∙ ap₂ (λ xs ys. xs ++ ys) first second))
