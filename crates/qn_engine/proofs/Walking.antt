-- The steps of a network one by one: the step after the first n, the state before it and after it, and passing places.
use Rattle.std.proofs.Common.{◌≡◌, ◌<◌, ℕ, zero, suc, ◌+◌, ℤ, Bool, true, false, cond, Some, None, Option, List, [], ◌∷◌, ◌++◌, refl, sym, ◌∙◌, ap, ap₂, subst, filter, length, take, drop, get_or, add-one, arith}
use Rattle.qn_charge.specs.declared.factor.Factor.{Factor}
use Rattle.qn_index.specs.Legs.{SectorValue, LegValue}
use Rattle.qn_index.specs.Tuples.{tuples, admits, admitted}
use Rattle.qn_value.specs.Networks.{Parities}
use Rattle.qn_value.specs.Magnitudes.{Place, passing_offset, place_or, first_passing}
use Rattle.qn_net.specs.Groups.{flux_of}
use Rattle.qn_net.specs.Steps.{Step, State, result, after, carry}
use Rattle.qn_net.specs.Carried.{AllSound, StepsLaw}
use Rattle.qn_net.specs.Passing.{StepPlace, place_of_step, result_magnitude, result_legs, first_passing_step, first_admissible_step, made}
use Rattle.qn_net.specs.NetworkValues.{NetworkValue, IsWellFormed, parities, sectors, opens, begin, steps, passing_place, NetworkValueLaw}
use Rattle.qn_net.specs.Operations.{AreTwistedLines, LinesLaw}
use Rattle.qn_plan.specs.Planned.{first_wide}
use Rattle.qn_plan.proofs.Listing.{cut, cut_length}
use Rattle.qn_engine.specs.Carrying.{step_at, state_at, result_at, passing_at, AreClear, IsPassedAt}
use Rattle.qn_engine.specs.Evaluated.{IsEngineFault}
use Rattle.qn_engine.specs.declared.fault.EngineFault.{EngineFault}
use Rattle.qn_engine.specs.declared.fault.EngineFault.TheVariants.{Wide, Passed, Memory}

-- one element more
module _ {A : Type 0} where
  take_suc : (xs : List A) (k : ℕ) (d : A) → k < length xs → take (suc k) xs ≡ take k xs ++ get_or xs k d ∷ []
  take_suc [] k d h = absurd (omega arith)
  take_suc (x ∷ xs) zero d h = refl
  take_suc (x ∷ xs) (suc k) d h = ap (λ ys. x ∷ ys) (take_suc xs k d (omega arith))

  pub take_one : (xs : List A) (n : ℕ) (d : A) → n < length xs → take (n + 1) xs ≡ take n xs ++ get_or xs n d ∷ []
  take_one xs n d h = ap (λ k. take k xs) (add-one n) ∙ take_suc xs n d h

module _ (net : NetworkValue) (n : ℕ) (lt : n < length (steps net)) where
  -- the steps before, the step, and those behind
  pub whole : steps net ≡ take n (steps net) ++ (step_at net n ∷ drop (suc n) (steps net))
  whole = cut (steps net) n _ lt

  pub one_more : take (n + 1) (steps net) ≡ take n (steps net) ++ step_at net n ∷ []
  one_more = take_one (steps net) n _ lt

  module _ (law : StepsLaw) (value : NetworkValueLaw) (w : IsWellFormed net) where
    all_sound : AllSound (parities net) (opens net) (take n (steps net) ++ (step_at net n ∷ drop (suc n) (steps net))) (begin net)
    all_sound = subst (λ ts. AllSound (parities net) (opens net) ts (begin net)) whole (value net w).0

    pub here : AllSound (parities net) (opens net) (step_at net n ∷ drop (suc n) (steps net)) (state_at net n)
    here = (law (parities net) (opens net) (take n (steps net)) (step_at net n ∷ drop (suc n) (steps net)) (begin net) all_sound).0

    pub next_state : state_at net (n + 1) ≡ after (parities net) (step_at net n)
    next_state =
        ap (λ ts. carry (parities net) ts (begin net)) one_more
        ∙ carry_append (take n (steps net)) (begin net)
      where
        carry_append : (ts : List Step) (s : State) → carry (parities net) (ts ++ step_at net n ∷ []) s ≡ after (parities net) (step_at net n)
        carry_append [] s = refl
        carry_append (t ∷ ts) s = carry_append ts (after (parities net) t)

    -- the lines left
    pub lines_at : LinesLaw → AreTwistedLines net.twists (sectors net) (begin net).left → AreTwistedLines net.twists (sectors net) (state_at net n).left
    lines_at lines k = go (take n (steps net)) (step_at net n ∷ drop (suc n) (steps net)) (begin net) all_sound k
      where
        go : (ts us : List Step) (s : State) → AllSound (parities net) (opens net) (ts ++ us) s → AreTwistedLines net.twists (sectors net) s.left → AreTwistedLines net.twists (sectors net) (carry (parities net) ts s).left
        go [] us s sound k = k
        go (t ∷ ts) us s sound k = go ts us (after (parities net) t) sound.2 (lines net.twists (sectors net) (parities net) s t k sound.1)

-- passing places

none_step : (n : ℕ) (p : Option Place) (q : Option StepPlace) → place_of_step n p q ≡ None → (p ≡ None) × (q ≡ None)
none_step n None q e = (refl, e)
none_step n (Some p) q e = absurd (cc e)

module _ (par : Parities) (fs : List Factor) (sectors : ℤ → List SectorValue) where
  -- where the first steps do not pass, the first passing place is that of those behind
  passing_behind : (k : ℕ) (ts us : List Step) → first_admissible_step par fs sectors k ts ≡ None → first_admissible_step par fs sectors k (ts ++ us) ≡ first_admissible_step par fs sectors (length ts + k) us
  passing_behind k [] us e = ap (λ j. first_admissible_step par fs sectors j us) same
    where
      same : k ≡ 0 + k
      same = omega arith
  passing_behind k (t ∷ ts) us e =
      let legs : List LegValue = result_legs par sectors t in
      let w = none_step k (first_passing (result_magnitude par made t) legs (admitted fs legs (flux_of fs (result par t)))) (first_admissible_step par fs sectors (suc k) ts) e in
      ap (λ p. place_of_step k p (first_admissible_step par fs sectors (suc k) (ts ++ us))) w.0
      ∙ passing_behind (suc k) ts us w.1
      ∙ ap (λ j. first_admissible_step par fs sectors j us) (shift (length ts) k)
    where
      shift : (i j : ℕ) → i + suc j ≡ suc i + j
      shift i j = omega arith

module _ (net : NetworkValue) (n : ℕ) (lt : n < length (steps net)) (clear : AreClear net n) where
  taken_length : length (take n (steps net)) + 1 ≡ n + 1
  taken_length = ap (λ k. k + 1) (cut_length (steps net) n lt)

  -- the next step does not pass either
  pub clear_next : passing_at net n ≡ None → AreClear net (n + 1)
  clear_next e =
      ap (first_admissible_step (parities net) net.group (sectors net) 1) (one_more net n lt)
      ∙ passing_behind (parities net) net.group (sectors net) 1 (take n (steps net)) (step_at net n ∷ []) clear
      ∙ ap (λ p. place_of_step (length (take n (steps net)) + 1) p None) e

  -- or it is the first to pass
  pub fault_next : first_wide net ≡ None → passing_place net ≡ first_admissible_step (parities net) net.group (sectors net) 1 (steps net) → (e : EngineFault) → IsPassedAt net n e → IsEngineFault net e
  fault_next narrow place (Wide step) h = absurd h
  fault_next narrow place (Passed step at offset) h = (
    narrow,
    place
        ∙ ap (first_admissible_step (parities net) net.group (sectors net) 1) (whole net n lt)
        ∙ passing_behind (parities net) net.group (sectors net) 1 (take n (steps net)) (step_at net n ∷ drop (suc n) (steps net)) clear
        ∙ ap (λ p. place_of_step (length (take n (steps net)) + 1) p (first_admissible_step (parities net) net.group (sectors net) (suc (length (take n (steps net)) + 1)) (drop (suc n) (steps net)))) h.1
        ∙ ap (λ k. Some (record { step = k; tuple = at; offset = offset })) (taken_length ∙ sym h.0),
  )
  fault_next narrow place Memory h = tt

-- tuples that are left out do not pass
none_place : (t : List ℕ) (o : Option ℕ) (p : Option Place) → place_or t o p ≡ None → (o ≡ None) × (p ≡ None)
none_place t None p e = (refl, e)
none_place t (Some o) p e = absurd (cc e)

none_among : (size : List ℕ → ℕ) (ls : List LegValue) (keep : List ℕ → Bool) (ts : List (List ℕ)) → first_passing size ls ts ≡ None → first_passing size ls (filter keep ts) ≡ None
none_among size ls keep [] e = refl
none_among size ls keep (t ∷ ts) e =
    let w = none_place t (passing_offset size ls t) (first_passing size ls ts) e in
    go (keep t) w.0 (none_among size ls keep ts w.1)
  where
    go : (b : Bool) → passing_offset size ls t ≡ None → first_passing size ls (filter keep ts) ≡ None → first_passing size ls (cond b (t ∷ filter keep ts) (filter keep ts)) ≡ None
    go true o ih = ap₂ (place_or t) o ih
    go false o ih = ih

pub silent_admitted : (net : NetworkValue) (n k : ℕ) → first_passing_step (parities net) (sectors net) made k (step_at net n ∷ []) ≡ None → passing_at net n ≡ None
silent_admitted net n k e =
    none_among (result_magnitude (parities net) made (step_at net n)) (result_legs (parities net) (sectors net) (step_at net n)) (admits net.group (result_legs (parities net) (sectors net) (step_at net n)) (flux_of net.group (result_at net n)))
    (tuples (result_legs (parities net) (sectors net) (step_at net n)))
    (none_step k _ None e).0
