-- What stays where the tensors of a site are replaced.
use Rattle.std.proofs.Common.{◌≡◌, ℕ, zero, suc, ◌+◌, ◌-◌, ◌*◌, ℤ, Bool, Option, Some, None, List, [], ◌∷◌, ◌++◌, length, take, drop, refl, sym, ◌∙◌, ap, ap₂, subst, arith}
use Rattle.qn_charge.specs.declared.factor.Factor.{Factor}
use Rattle.qn_index.specs.Legs.{SectorValue}
use Rattle.qn_value.specs.Networks.{Parities}
use Rattle.qn_value.specs.Labels.{sectors_on}
use Rattle.qn_value.specs.Magnitudes.{Place}
use Rattle.qn_net.specs.Groups.{TensorGroup}
use Rattle.qn_net.specs.Steps.{Step}
use Rattle.qn_net.specs.Passing.{StepPlace, place_of_step, first_admissible_step}
use Rattle.qn_net.specs.NetworkValues.{parities, sectors, begin, steps, NetworkPassingLaw}
use Rattle.qn_plan.specs.Reached.{state_after}
use Rattle.qn_replace.specs.Replaced.{IsReplaced, IsAlike, AreAlike, StaysSo, ReplacedLaw}
use Rattle.qn_sweep.specs.LeftToRight.{of_site, steps_before, HoldsSites, IsLeftToRight, LeftToRightLaw}
use Rattle.qn_sweep.specs.Putting.{PutLaw, StaysBeforeLaw}
use Rattle.qn_sweep.proofs.Whole.{all_apart}

-- steps none of which passes, and the first of them

none_passes : (n : ℕ) (o : Option Place) (later : Option StepPlace) → place_of_step n o later ≡ None → (o ≡ None) × (later ≡ None)
none_passes n None later h = (refl, h)
none_passes n (Some p) later h = absurd (no h)
  where
    no : {A : Type 0} {x : A} → Some x ≡ None → ⊥
    no e = cc

first_clear : (par : Parities) (fs : List Factor) (sec : ℤ → List SectorValue) (n k : ℕ) (ts : List Step) → first_admissible_step par fs sec n ts ≡ None →
    first_admissible_step par fs sec n (take k ts) ≡ None
first_clear par fs sec n zero ts h = ap (first_admissible_step par fs sec n) (none ts)
  where
    none : (us : List Step) → take 0 us ≡ []
    none [] = refl
    none (u ∷ us) = refl
first_clear par fs sec n (suc k) [] h = refl
first_clear par fs sec n (suc k) (t ∷ ts) h =
    let p = none_passes n _ (first_admissible_step par fs sec (suc n) ts) h in
    ap₂ (place_of_step n) p.0 (first_clear par fs sec (suc n) k ts p.1)

-- the group in a place of two alike lists
alike_at : (test : ℕ → Bool) (xs ys us vs : List TensorGroup) (g h : TensorGroup) → length xs ≡ length ys → AreAlike test (xs ++ (g ∷ us)) (ys ++ (h ∷ vs)) → IsAlike test g h
alike_at test [] [] us vs g h e k = k.0
alike_at test [] (y ∷ ys) us vs g h e k = absurd (omega (arith, e))
alike_at test (x ∷ xs) [] us vs g h e k = absurd (omega (arith, e))
alike_at test (x ∷ xs) (y ∷ ys) us vs g h e k = alike_at test xs ys us vs g h (omega (arith, e)) k.1

take_long : (k : ℕ) (xs ys : List TensorGroup) → length xs ≡ length ys → length (take k xs) ≡ length (take k ys)
take_long zero [] [] e = refl
take_long zero [] (y ∷ ys) e = absurd (omega (arith, e))
take_long zero (x ∷ xs) [] e = absurd (omega (arith, e))
take_long zero (x ∷ xs) (y ∷ ys) e = refl
take_long (suc k) [] [] e = refl
take_long (suc k) [] (y ∷ ys) e = absurd (omega (arith, e))
take_long (suc k) (x ∷ xs) [] e = absurd (omega (arith, e))
take_long (suc k) (x ∷ xs) (y ∷ ys) e = ap suc (take_long k xs ys (omega (arith, e)))

module _ (replaced : ReplacedLaw) (put : PutLaw) (swept : LeftToRightLaw) (passes : NetworkPassingLaw) where
  pub stays_before : StaysBeforeLaw
  stays_before fs bra op ket bra' ket' j old new w w' x x' few lo lk lt pb pk =
      let n : ℕ = length bra in
      let r : IsReplaced (of_site n j) old new = put fs bra op ket bra' ket' j old new x x' lo lk lt pb pk in
      let s : StaysSo (of_site n j) old new = replaced (of_site n j) old new r in
      let l : IsLeftToRight old n = swept fs bra op ket old w x (omega (arith, lt)) few lo lk in
      let l' : IsLeftToRight new n =
      subst (IsLeftToRight new) pb.count (swept fs bra' op ket' new w' x' (let e = pb.count in omega (arith, e, lt)) (let e = pb.count in omega (arith, e, few)) (lo ∙ sym pb.count) (pk.count ∙ lk ∙ sym pb.count)) in
      record {
        group = r.group;
        lines = ap sectors_on r.legs;
        plan = s.plan;
        width = s.width;
        rest = s.costs (of_site n j);
        held = λ i some le.
            let a = l.groups i some (omega (arith, le, lt)) in
            let b = l'.groups i some (omega (arith, le, lt)) in
            let starts : length (begin old).groups ≡ length (begin new).groups = l.many ∙ sym l'.many in
            let alike : IsAlike (of_site n j) a.0 b.0 =
            alike_at (of_site n j) (take (n - i) (begin old).groups) (take (n - i) (begin new).groups)
            (take (n - i) (drop (n + i) (begin old).groups) ++ drop (2 * n + i) (begin old).groups) (take (n - i) (drop (n + i) (begin new).groups) ++ drop (2 * n + i) (begin new).groups)
            a.0 b.0 (take_long (n - i) (begin old).groups (begin new).groups starts)
            (subst (AreAlike (of_site n j) (take (n - i) (begin old).groups ++ (a.0 ∷ (take (n - i) (drop (n + i) (begin old).groups) ++ drop (2 * n + i) (begin old).groups)))) b.1.1
            (subst (λ gs. AreAlike (of_site n j) gs (state_after new (take (steps_before i) (steps new))).groups) a.1.1 (s.groups (steps_before i)))) in
            let same : a.0 ≡ b.0 = alike.same (a.1.2 (of_site n j) ∙ all_apart n j 0 i (omega (arith, le)) lt) in
            (a.0, a.1, subst (HoldsSites n i (begin new).groups (state_after new (take (steps_before i) (steps new))).groups) (sym same) b.1);
        passing = λ clear.
            sym (s.passing (steps_before j) (l.untouched j lt))
            ∙ first_clear (parities old) old.group (sectors old) 1 (steps_before j) (steps old) (sym (passes old w) ∙ clear);
      }
