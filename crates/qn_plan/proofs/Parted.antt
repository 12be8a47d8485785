-- Labels in two lists, one label after another.
use Rattle.std.proofs.Common.{◌≡◌, ◌<◌, ◌-◌, ℤ, pos, Bool, true, false, cond, if◌then◌else◌, List, [], ◌∷◌, ◌++◌, ◌∙◌, ap, length, filter, take, drop, get_or, arith, append_assoc}
use Rattle.std.proofs.lemmas.List.{take_all}

-- the next label stands in the list of those that pass, or is left out
pub parted_more : (q : ℤ → Bool) (rest : List ℤ) (l : ℤ) (b : Bool) (old new all : List ℤ) → 0 < length rest → l ≡ get_or rest 0 (pos 0) → b ≡ q l →
    new ≡ (if b then old ++ l ∷ [] else old) → old ++ filter q rest ≡ all → new ++ filter q (take (length rest - 1) (drop 1 rest)) ≡ all
parted_more q [] l b old new all lt is e f h = absurd (omega arith)
parted_more q (x ∷ xs) l b old new all lt is e f h = ap (λ ys. new ++ filter q ys) tail ∙ (go b (e ∙ ap q is) (f ∙ ap (λ k. if b then old ++ k ∷ [] else old) is) ∙ h)
  where
    tail : take (length (x ∷ xs) - 1) xs ≡ xs
    tail = take_all (length (x ∷ xs) - 1) xs (omega arith)

    go : (t : Bool) → t ≡ q x → new ≡ (if t then old ++ x ∷ [] else old) → new ++ filter q xs ≡ old ++ cond (q x) (x ∷ filter q xs) (filter q xs)
    go true e f = ap (λ ys. ys ++ filter q xs) f ∙ (append_assoc old (x ∷ []) (filter q xs) ∙ ap (λ t. old ++ cond t (x ∷ filter q xs) (filter q xs)) e)
    go false e f = ap (λ ys. ys ++ filter q xs) f ∙ ap (λ t. old ++ cond t (x ∷ filter q xs) (filter q xs)) e
