-- What steps of a plan cost, from place to place.
use Rattle.std.proofs.Common.{◌≡◌, ◌≤◌, ℕ, zero, suc, ◌+◌, ◌-◌, List, [], ◌∷◌, take, drop, refl, sym, ◌∙◌, ap, ap₂, arith}
use Rattle.std.specs.List.{sum_by}
use Rattle.std.proofs.lemmas.List.Sums.{sum_by-cons, sum_by-take-drop}
use Rattle.qn_plan.specs.Planned.{StepValue}
use Rattle.qn_engine.proofs.Evaluating.{costs}

abbrev total : List StepValue → ℕ
total xs = sum_by (λ (t : StepValue). t.cost) xs

none_taken : (xs : List StepValue) → take 0 xs ≡ []
none_taken [] = refl
none_taken (x ∷ xs) = refl

none_dropped : (xs : List StepValue) → drop 0 xs ≡ xs
none_dropped [] = refl
none_dropped (x ∷ xs) = refl

take_more : (xs : List StepValue) (m k n : ℕ) → n ≡ m + k → total (take n xs) ≡ total (take m xs) + total (take k (drop m xs))
take_more xs zero k n e =
    ap (λ i. total (take i xs)) (e ∙ from_zero k) ∙ to_zero (total (take k xs))
    ∙ ap₂ (λ us vs. total us + total (take k vs)) (sym (none_taken xs)) (sym (none_dropped xs))
  where
    from_zero : (k : ℕ) → 0 + k ≡ k
    from_zero k = omega arith

    to_zero : (k : ℕ) → k ≡ 0 + k
    to_zero k = omega arith
take_more [] (suc m) zero zero e = absurd (omega (arith, e))
take_more [] (suc m) (suc k) zero e = absurd (omega (arith, e))
take_more [] (suc m) zero (suc n) e = omega arith
take_more [] (suc m) (suc k) (suc n) e = omega arith
take_more (x ∷ xs) (suc m) k zero e = absurd (omega (arith, e))
take_more (x ∷ xs) (suc m) k (suc n) e =
    let a = sum_by-cons (λ (t : StepValue). t.cost) x (take n xs) in
    let b = sum_by-cons (λ (t : StepValue). t.cost) x (take m xs) in
    let c = take_more xs m k n (omega (arith, e)) in
    omega (arith, a, b, c)

drop_twice : (xs : List StepValue) (a m b : ℕ) → b ≡ a + m → drop m (drop a xs) ≡ drop b xs
drop_twice xs zero m b e = ap (drop m) (none_dropped xs) ∙ ap (λ i. drop i xs) (sym (e ∙ from_zero m))
  where
    from_zero : (k : ℕ) → 0 + k ≡ k
    from_zero k = omega arith
drop_twice [] (suc a) zero zero e = refl
drop_twice [] (suc a) (suc m) zero e = absurd (omega (arith, e))
drop_twice [] (suc a) zero (suc b) e = refl
drop_twice [] (suc a) (suc m) (suc b) e = refl
drop_twice (x ∷ xs) (suc a) m zero e = absurd (omega (arith, e))
drop_twice (x ∷ xs) (suc a) m (suc b) e = drop_twice xs a m b (omega (arith, e))

-- from a to b, and from b to c
pub costs_add : (xs : List StepValue) (a b c : ℕ) → a ≤ b → b ≤ c → costs xs a (c - a) ≡ costs xs a (b - a) + costs xs b (c - b)
costs_add xs a b c h k =
    take_more (drop a xs) (b - a) (c - b) (c - a) (omega (arith, h, k))
    ∙ ap (λ us. total (take (b - a) (drop a xs)) + total (take (c - b) us)) (drop_twice xs a (b - a) b (omega (arith, h)))

-- some of the steps from a on cost no more than all of them
pub costs_total : (xs : List StepValue) (a k : ℕ) → costs xs a k ≤ sum_by (λ (t : StepValue). t.cost) (drop a xs)
costs_total xs a k = let p = sum_by-take-drop (λ (t : StepValue). t.cost) (drop a xs) k in omega (arith, p)
