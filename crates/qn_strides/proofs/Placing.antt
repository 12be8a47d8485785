-- Lists of places and parities that are made one element at a time.
use Rattle.std.proofs.Common.{◌≡◌, ◌<◌, ◌-◌, ℕ, zero, suc, ◌+◌, Bool, true, false, not, cond, List, [], ◌∷◌, ◌++◌, refl, sym, ◌∙◌, ap, filter, length, get_or, take, zero-add, add-one, append-nil, arith}
use Rattle.std.specs.List.{All}
use Rattle.std.proofs.lemmas.List.{take_all, take_more}
use Rattle.std.proofs.lemmas.List.Elements.{filter-append}
use Rattle.qn_sign.specs.Positions.{positions}
use Rattle.qn_charge.specs.declared.factor.Factor.{Factor}
use Rattle.qn_charge.specs.Charges.{parity}
use Rattle.qn_index.specs.Legs.{LegValue, sector_at}
use Rattle.qn_index.specs.Tuples.{IsTuple}
use Rattle.qn_value.specs.Local.{is_coupled, IsCouple}
use Rattle.qn_strides.specs.Strides.{goal_couples, open_places, sector_parities}
use Rattle.qn_facts.proofs.Lists.{range_last}

places_next : (cs : List (ℕ × ℕ)) (n : ℕ) → open_places cs (n + 1) ≡ open_places cs n ++ cond (not (is_coupled cs n)) (n ∷ []) []
places_next cs n =
    ap (open_places cs) (add-one n)
    ∙ ap (filter (λ i. not (is_coupled cs i))) (range_last 0 n ∙ ap (λ k. positions n ++ k ∷ []) (zero-add n))
    ∙ filter-append (λ i. not (is_coupled cs i)) (positions n) (n ∷ [])

pub places_kept : (cs : List (ℕ × ℕ)) (n : ℕ) (xs : List ℕ) → xs ≡ open_places cs n → is_coupled cs n ≡ false → xs ++ n ∷ [] ≡ open_places cs (n + 1)
places_kept cs n xs e h = ap (λ ys. ys ++ n ∷ []) e ∙ sym (places_next cs n ∙ ap (λ b. open_places cs n ++ cond (not b) (n ∷ []) []) h)

pub places_passed : (cs : List (ℕ × ℕ)) (n : ℕ) (xs : List ℕ) → xs ≡ open_places cs n → is_coupled cs n ≡ true → xs ≡ open_places cs (n + 1)
places_passed cs n xs e h = e ∙ sym (places_next cs n ∙ ap (λ b. open_places cs n ++ cond (not b) (n ∷ []) []) h ∙ append-nil (open_places cs n))

-- the goal so far, and that of the couples that remain
pub record IsPlaced (ls : List LegValue) (cs rest : List (ℕ × ℕ)) (goal : List ℕ) : Type 0 where
  pub made : goal ++ goal_couples ls rest ≡ goal_couples ls cs
  pub couples : All (IsCouple ls) rest

parity_at_place : (fs : List Factor) (ls : List LegValue) (t : List ℕ) (i : ℕ) (l : LegValue) (d : Bool) → IsTuple ls t → i < length ls → get_or (sector_parities fs ls t) i d ≡ parity fs (sector_at (get_or ls i l).sectors (get_or t i 0)).charge
parity_at_place fs [] t i l d h lt = absurd (omega arith)
parity_at_place fs (k ∷ ls) [] i l d h lt = absurd h
parity_at_place fs (k ∷ ls) (s ∷ ss) zero l d h lt = refl
parity_at_place fs (k ∷ ls) (s ∷ ss) (suc i) l d h lt = parity_at_place fs ls ss i l d h.1 (omega arith)

pub parities_long : (fs : List Factor) (ls : List LegValue) (t : List ℕ) → IsTuple ls t → length (sector_parities fs ls t) ≡ length ls
parities_long fs [] t h = refl
parities_long fs (k ∷ ls) [] h = absurd h
parities_long fs (k ∷ ls) (s ∷ ss) h = ap suc (parities_long fs ls ss h.1)

pub parities_more : (fs : List Factor) (ls : List LegValue) (t : List ℕ) (i : ℕ) (l : LegValue) (b : Bool) (xs : List Bool) → IsTuple ls t → i < length ls → l ≡ get_or ls i l → xs ≡ take i (sector_parities fs ls t) →
    b ≡ parity fs (sector_at l.sectors (get_or t i 0)).charge → xs ++ b ∷ [] ≡ take (i + 1) (sector_parities fs ls t)
parities_more fs ls t i l b xs h lt e f g =
    (λ j. f j ++ (g ∙ ap (λ (m : LegValue). parity fs (sector_at m.sectors (get_or t i 0)).charge) e ∙ sym (parity_at_place fs ls t i l false h lt)) j ∷ [])
    ∙ sym (take_more (sector_parities fs ls t) i false (omega (arith, lt, parities_long fs ls t h)))

pub parities_all : (fs : List Factor) (ls : List LegValue) (t : List ℕ) (i : ℕ) (xs : List Bool) → IsTuple ls t → i ≡ length ls → xs ≡ take i (sector_parities fs ls t) → xs ≡ sector_parities fs ls t
parities_all fs ls t i xs h e f = f ∙ take_all i (sector_parities fs ls t) (omega (arith, e, parities_long fs ls t h))
